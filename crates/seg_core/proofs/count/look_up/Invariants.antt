use Rattle.std.proofs.Common.{◌≡◌, map, length}
use Rattle.seg_core.specs.Count.{beside}
use Rattle.seg_core.proofs.count.look_up.Given as goal

abbrev pub invariant-loop-table : goal.invariant-loop-table
invariant-loop-table l = beside (map (λ row. (row.0.now, row.1)) l.table) l.suffix ≡ beside (map (λ row. (row.0.now, row.1)) l.fn.table) l.suffix

abbrev pub decreases-loop-table : goal.decreases-loop-table
decreases-loop-table l = length l.table
