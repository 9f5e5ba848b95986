use Rattle.std.proofs.{lemmas.{Grind.common_steps, List.{take_min, take-map}}, Common.arith}
use Rattle.words_core.proofs.refusal.words_before.Goals as goal

pub returns : goal.returns
returns c = grind (arith, common_steps, take_min, take-map)
