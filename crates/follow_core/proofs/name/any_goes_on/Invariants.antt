use Rattle.std.proofs.Common.{◌≡◌, length}
use Rattle.follow_core.specs.inner.Visits.{any_goes_on}
use Rattle.follow_core.proofs.name.any_goes_on.Given as goal

abbrev pub invariant-loop-left : goal.invariant-loop-left
invariant-loop-left l = any_goes_on l.by_name l.names ≡ any_goes_on l.by_name l.left

abbrev pub decreases-loop-left : goal.decreases-loop-left
decreases-loop-left l = length l.left
