use Rattle.std.{proofs.Common.{◌≡◌, ℕ, ◌<◌, length, false}, specs.Prelude.slice_index_or}
use Rattle.plain_core.proofs.table.row_of.Given as goal

abbrev pub invariant-loop-to : goal.invariant-loop-to
invariant-loop-to g l = record {
  count : length l.flags.items ≡ l.to;
  each : (to : ℕ) → to < l.to → goal.F-post g l.test l.from to (slice_index_or l.flags.items to false);
}
