use Rattle.std.{proofs.Common.{arith, rules, w64}, specs.Int.bit_not}
use Rattle.scan_core.proofs.Insides.{inside_ends, inside_more, inside_smaller, lowest_in}
use Rattle.scan_core.proofs.closures.inside_of.Goals as goal

pub bits-smaller : goal.bits-smaller
bits-smaller c =
    let lowest = lowest_in c.bits.all (bit_not w64 c.bits.done) (search rules) (omega arith) in
    inside_smaller _ lowest.0 (search rules) lowest.1

pub bits-preserved : goal.bits-preserved
bits-preserved c =
    let lowest = lowest_in c.bits.all (bit_not w64 c.bits.done) (search rules) (omega arith) in
    inside_more _ c.bits.invariant lowest.0 (search rules) lowest.1 c.targets-all.ensures

pub returns : goal.returns
returns c = inside_ends c.bits.invariant (search rules) c.bits-test.false
