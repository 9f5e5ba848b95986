use Rattle.std.proofs.Common.{◌≡◌, map, length}
use Rattle.bre_core.specs.Class.{beside}
use Rattle.bre_core.proofs.class.look_up.Given as goal

abbrev pub invariant-loop-table : goal.invariant-loop-table
invariant-loop-table l = beside (map (λ row. (row.0.now, row.1)) l.table) l.name ≡ beside (map (λ row. (row.0.now, row.1)) l.fn.table) l.name

abbrev pub decreases-loop-table : goal.decreases-loop-table
decreases-loop-table l = length l.table
