use Rattle.std.proofs.{Common.arith, lemmas.Grind.common_steps}
use Rattle.operand_core.proofs.word.read_word.Goals as goal

pub returns-in-47 : goal.returns-in-47
returns-in-47 c = grind (arith, common_steps)

pub returns-in-37 : goal.returns-in-37
returns-in-37 c = grind (arith, common_steps)

pub returns-in-Some : goal.returns-in-Some
returns-in-Some c = grind (arith, common_steps)

pub returns-in-None : goal.returns-in-None
returns-in-None c = grind (arith, common_steps)
