use Rattle.std.proofs.{lemmas.{Grind.common_steps, List.drop_all}, Common.arith}
use Rattle.operand_core.proofs.AimLemmas.{last_of, closing_within}
use Rattle.operand_core.proofs.word.find_closing.Goals as goal

pub returns-clause-within : goal.returns-clause-within
returns-clause-within c = grind (arith, common_steps, last_of, drop_all, closing_within)
