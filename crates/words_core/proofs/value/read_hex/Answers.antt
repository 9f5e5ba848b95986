use Rattle.std.proofs.{lemmas.{Grind.common_steps, Int.Digits.digits_value_more}, Common.arith}
use Rattle.seg_core.proofs.Value.{held_step}
use Rattle.words_core.proofs.value.read_hex.Goals as goal

pub loop-byte-preserved : goal.loop-byte-preserved
loop-byte-preserved c = grind (arith, common_steps, held_step, digits_value_more)
