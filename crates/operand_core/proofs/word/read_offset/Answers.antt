use Rattle.std.proofs.{Common.arith, lemmas.Grind.common_steps}
use Rattle.operand_core.proofs.word.read_offset.Goals as goal

pub returns-in_err-read_number-in-43 : goal.returns-in_err-read_number-in-43
returns-in_err-read_number-in-43 c = grind (arith, common_steps)

pub returns-in_err-read_number-in-45 : goal.returns-in_err-read_number-in-45
returns-in_err-read_number-in-45 c = grind (arith, common_steps)

pub returns-in_ok-read_number-in-43 : goal.returns-in_ok-read_number-in-43
returns-in_ok-read_number-in-43 c = grind (arith, common_steps)

pub returns-in_ok-read_number-in-45 : goal.returns-in_ok-read_number-in-45
returns-in_ok-read_number-in-45 c = grind (arith, common_steps)
