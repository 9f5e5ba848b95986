use Rattle.std.proofs.{Common.arith, lemmas.Grind.common_steps}
use Rattle.words_core.proofs.spelling.read_items.Goals as goal

pub returns-in_err-state : goal.returns-in_err-state
returns-in_err-state c = grind (arith, common_steps)

pub returns : goal.returns
returns c = grind (arith, common_steps)
