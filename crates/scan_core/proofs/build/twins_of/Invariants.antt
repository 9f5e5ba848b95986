use Rattle.scan_core.specs.inner.{Each.AreEach, Built.AreAlike}
use Rattle.scan_core.proofs.build.twins_of.Given as goal

abbrev pub invariant-loop-byte : goal.invariant-loop-byte
invariant-loop-byte l = AreEach 0 (AreAlike l.nodes) l.byte l.twins.items
