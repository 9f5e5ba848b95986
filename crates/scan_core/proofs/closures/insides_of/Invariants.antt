use Rattle.scan_core.specs.inner.{Closures.IsInside, Each.AreEach}
use Rattle.scan_core.proofs.closures.insides_of.Given as goal

abbrev pub invariant-loop-place : goal.invariant-loop-place
invariant-loop-place l = AreEach 0 (IsInside l.nodes) l.place l.inside.items
