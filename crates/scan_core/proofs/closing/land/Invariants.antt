use Rattle.scan_core.specs.inner.Closing.{LandsFirst}
use Rattle.scan_core.proofs.closing.land.Given as goal

abbrev pub invariant-loop-place : goal.invariant-loop-place
invariant-loop-place l = LandsFirst l.nodes l.base l.landings l.fn.words l.words l.place
