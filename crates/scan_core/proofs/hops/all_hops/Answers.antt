use Rattle.std.proofs.Common.{arith}
use Rattle.scan_core.proofs.{Closings.all_met, Enterings.at_least}
use Rattle.scan_core.proofs.hops.all_hops.Goals as goal

pub loop-number-preserved : goal.loop-number-preserved
loop-number-preserved c = let added = c.in_ok-add_hops.ensures in record {
  sound = added.sound;
  met = all_met _ _ _ _ c.loop-number.invariant.met added.grown added.met;
}

pub returns-clause-met : goal.returns-clause-met
returns-clause-met c = λ number to f. c.loop-number.invariant.met number to
    (omega (arith, at_least c.args.nodes.now number f.0 f.1, c.loop-number-test.false)) f
