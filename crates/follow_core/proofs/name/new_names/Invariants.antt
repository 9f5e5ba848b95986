use Rattle.std.proofs.Common.{◌≡◌, ◌++◌, map, length}
use Rattle.follow_core.specs.FollowState.{new_state}
use Rattle.follow_core.proofs.name.new_names.Given as goal

abbrev pub invariant-loop-left : goal.invariant-loop-left
invariant-loop-left l = l.made.items ++ map new_state (map (λ name. name.now) l.left) ≡ map new_state (map (λ name. name.now) l.names)

abbrev pub decreases-loop-left : goal.decreases-loop-left
decreases-loop-left l = length l.left
