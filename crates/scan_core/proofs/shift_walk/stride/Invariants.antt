use Rattle.std.proofs.Common.{◌+◌, ◌*◌, ◌≤◌, ℕ}
use Rattle.scan_core.specs.inner.Shifts.{IsAt}
use Rattle.scan_core.proofs.shift_walk.stride.Given as goal

abbrev pub invariant-loop-done : goal.invariant-loop-done
invariant-loop-done l = record {
  small : l.steps ≤ l.done * 65537;
  at : (before : ℕ) → IsAt l.nodes l.table l.line l.from l.fn.word before
      → IsAt l.nodes l.table l.line (l.from + l.done) l.word (before + l.steps);
}
