use Rattle.scan_core.proofs.Insides.{bits_more, flag_one}
use Rattle.scan_core.proofs.masks.word_of.Goals as goal

pub loop-bit-preserved : goal.loop-bit-preserved
loop-bit-preserved c = bits_more _ c.loop-bit.invariant c.loop-bit-test.true (λ e. c.is_of.ensures.0 ((flag_one _).0 e), λ k. (flag_one _).1 (c.is_of.ensures.1 k))
