use Rattle.std.{proofs.Common.{◌≡◌, ◌&&◌, nat_le, []}, specs.Prelude.slice_index_or}
use Rattle.bre_core.specs.Search.{any_below, is_at_most}
use Rattle.plain_core.specs.inner.Table.{at}
use Rattle.plain_core.proofs.table.repeated_at.Given as goal

abbrev pub invariant-loop-count : goal.invariant-loop-count
invariant-loop-count l =
    l.found ≡ any_below l.count (λ n. nat_le l.low n && (is_at_most l.high n && at (slice_index_or l.runs n []) l.from l.to))
