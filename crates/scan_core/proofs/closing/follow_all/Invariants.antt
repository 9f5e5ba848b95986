use Rattle.scan_core.specs.inner.Closing.{FollowsFirst}
use Rattle.scan_core.proofs.closing.follow_all.Given as goal

abbrev pub invariant-loop-place : goal.invariant-loop-place
invariant-loop-place l = FollowsFirst l.nodes l.closures l.fn.words l.words l.place l.over
