use Rattle.std.proofs.Common.{◌≡◌, ℕ, ◌+◌, Bool, length}
use Rattle.plain_core.{specs.inner.Table.IsTable, proofs.Tables.AreRuns}
use Rattle.plain_core.proofs.table.Table.repeated.Given as goal

abbrev pub invariant-loop-count : goal.invariant-loop-count
invariant-loop-count l = record {
  size : length l.runs.items ≡ l.count + 1;
  runs : (part : ℕ → ℕ → Bool) → IsTable (length l.line) part l.self
      → AreRuns (length l.line) part (l.count + 1) l.runs.items;
}
