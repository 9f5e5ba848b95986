use Rattle.std.proofs.Common.{◌≡◌, suc}
use Rattle.bre_core.specs.Search.{any_below}
use Rattle.plain_core.specs.inner.Table.{at}
use Rattle.plain_core.proofs.table.Table.has_any.Given as goal

abbrev pub invariant-loop-to : goal.invariant-loop-to
invariant-loop-to l = l.found ≡ any_below l.to (λ to. any_below (suc to) (λ from. at l.self from to))
