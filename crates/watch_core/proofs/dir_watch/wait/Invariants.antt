use Rattle.std.proofs.Common.{◌≡◌, ◌≤◌, ◌-◌}
use Rattle.watch_core.proofs.dir_watch.wait.Given as goal

abbrev pub invariant-loop-rested : goal.invariant-loop-rested
invariant-loop-rested g l = (l.names.items ≡ l.fn.names.items) × (l.rested ≤ l.most)

abbrev pub decreases-loop-rested : goal.decreases-loop-rested
decreases-loop-rested g l = l.most - l.rested
