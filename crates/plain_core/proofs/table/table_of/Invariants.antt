use Rattle.std.proofs.Common.{◌≡◌, ℕ, ◌<◌, ◌≤◌, length}
use Rattle.plain_core.specs.inner.Table.{at}
use Rattle.plain_core.proofs.table.table_of.Given as goal

abbrev pub invariant-loop-from : goal.invariant-loop-from
invariant-loop-from g l = record {
  count : length l.rows.items ≡ l.from;
  each : (from to : ℕ) → from < l.from → to ≤ length l.line → goal.F-post g l.test from to (at l.rows.items from to);
}
