use Rattle.std.proofs.Common.{inl, inr, arith}
use Rattle.scan_core.proofs.Insides.{bits_more, not_one}
use Rattle.scan_core.proofs.closures.leading.Goals as goal

pub loop-bit-preserved : goal.loop-bit-preserved
loop-bit-preserved c = bits_more _ c.loop-bit.invariant c.loop-bit-test.true
    (λ to f. elim (not_one _) [ inl t ↦ inr (c.is_within.ensures t to f) | inr one ↦ inl one ])

pub returns : goal.returns
returns c = λ bit to h f. c.loop-bit.invariant.past bit (omega arith) to f
