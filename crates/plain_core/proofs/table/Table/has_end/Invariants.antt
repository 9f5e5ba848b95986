use Rattle.std.proofs.Common.{◌≡◌}
use Rattle.bre_core.specs.Search.{any_below}
use Rattle.plain_core.specs.inner.Table.{at}
use Rattle.plain_core.proofs.table.Table.has_end.Given as goal

abbrev pub invariant-loop-from : goal.invariant-loop-from
invariant-loop-from l = l.found ≡ any_below l.from (λ from. at l.self from l.to)
