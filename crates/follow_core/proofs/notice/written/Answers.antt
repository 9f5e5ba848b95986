use Rattle.std.proofs.{Common.arith, lemmas.Grind.common_steps}
use Rattle.follow_core.proofs.notice.written.Goals as goal

pub returns : goal.returns
returns c = grind (arith, common_steps)
