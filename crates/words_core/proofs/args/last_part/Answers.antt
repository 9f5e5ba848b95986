use Rattle.words_core.proofs.CalledLemmas.{whole_part}
use Rattle.words_core.proofs.args.last_part.Goals as goal

pub loop-left-init : goal.loop-left-init
loop-left-init c = whole_part c.args.path.now
