use Rattle.std.proofs.Common.{arith}
use Rattle.scan_core.proofs.Insides.{bits_more, flag_one}
use Rattle.scan_core.proofs.hops.from_of.Goals as goal

pub loop-bit-preserved : goal.loop-bit-preserved
loop-bit-preserved c = bits_more _ c.loop-bit.invariant c.loop-bit-test.true (λ one. c.leads_to.ensures.0 ((flag_one _).0 one), λ f. (flag_one _).1 (c.leads_to.ensures.1 f))

pub returns : goal.returns
returns c = λ bit h. c.loop-bit.invariant.past bit (omega arith)
