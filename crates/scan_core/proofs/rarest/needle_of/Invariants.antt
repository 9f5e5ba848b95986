use Rattle.scan_core.specs.inner.Needles.{IsRarest}
use Rattle.scan_core.proofs.rarest.needle_of.Given as goal

abbrev pub invariant-loop-at : goal.invariant-loop-at
invariant-loop-at l = IsRarest l.nodes l.at l.rarest
