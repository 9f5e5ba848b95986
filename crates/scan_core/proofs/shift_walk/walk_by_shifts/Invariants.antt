use Rattle.std.proofs.Common.{length, ◌-◌, ◌≤◌}
use Rattle.scan_core.specs.inner.Shifts.{IsAt}
use Rattle.scan_core.proofs.shift_walk.walk_by_shifts.Given as goal

abbrev pub invariant-loop-place : goal.invariant-loop-place
invariant-loop-place l = record {
  within : l.place ≤ length l.line;
  at : IsAt l.nodes l.table l.line l.place l.word l.steps;
}

abbrev pub decreases-loop-place : goal.decreases-loop-place
decreases-loop-place l = length l.line - l.place
