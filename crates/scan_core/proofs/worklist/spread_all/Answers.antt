use Rattle.std.proofs.Common.{arith}
use Rattle.scan_core.proofs.Insides.{spreading_more, spreading_ends, visits_smaller}
use Rattle.scan_core.proofs.worklist.spread_all.Goals as goal

pub numbers-smaller : goal.numbers-smaller
numbers-smaller c = visits_smaller c.visit-number.ensures c.numbers-test.true

pub numbers-preserved : goal.numbers-preserved
numbers-preserved c = spreading_more c.numbers.invariant c.visit-number.ensures

pub returns : goal.returns
returns c = spreading_ends c.numbers.invariant (omega arith)
