use Rattle.std.proofs.Common.{◌≡◌, ◌≤◌, []}
use Rattle.ports_core.specs.Slot.{with_lost}
use Rattle.ports_core.proofs.slots.restore.Given as goal

abbrev pub invariant-loop-lost : goal.invariant-loop-lost
invariant-loop-lost g l = (with_lost (g.S.Unopened.unopened []) l.kept.items l.lost ≡ with_lost
    (g.S.Unopened.unopened []) l.fn.kept.items l.fn.lost) × (l.lost ≤ l.fn.lost)

abbrev pub decreases-loop-lost : goal.decreases-loop-lost
decreases-loop-lost g l = l.lost
