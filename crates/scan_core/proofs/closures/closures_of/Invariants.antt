use Rattle.scan_core.specs.inner.{Closures.IsLeading, Each.AreEach}
use Rattle.scan_core.proofs.closures.closures_of.Given as goal

abbrev pub invariant-loop-at : goal.invariant-loop-at
invariant-loop-at l = AreEach 0 (IsLeading l.nodes l.begun) l.at l.leads.items
