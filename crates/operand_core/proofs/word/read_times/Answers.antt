use Rattle.std.proofs.{lemmas.Grind.common_steps, Common.arith}
use Rattle.operand_core.proofs.AimLemmas.{is_brace, is_no_brace}
use Rattle.operand_core.proofs.word.read_times.Goals as goal

pub returns-then-last-eq125 : goal.returns-then-last-eq125
returns-then-last-eq125 c = grind (arith, common_steps, is_brace)

pub returns-else-last-eq125 : goal.returns-else-last-eq125
returns-else-last-eq125 c = grind (arith, common_steps, is_no_brace)
