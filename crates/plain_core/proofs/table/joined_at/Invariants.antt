use Rattle.std.proofs.Common.{◌≡◌, ◌&&◌}
use Rattle.bre_core.specs.Search.{any_below}
use Rattle.plain_core.specs.inner.Table.{at}
use Rattle.plain_core.proofs.table.joined_at.Given as goal

abbrev pub invariant-loop-middle : goal.invariant-loop-middle
invariant-loop-middle l = l.found ≡ any_below l.middle (λ middle. at l.first l.from middle && at l.second middle l.to)
