use Rattle.scan_core.specs.inner.Built.{IsBuilding}
use Rattle.scan_core.proofs.build.build.Given as goal

abbrev pub invariant-loop-place : goal.invariant-loop-place
invariant-loop-place l = IsBuilding l.nodes l.most l.place l.building
