use Rattle.std.proofs.Common.{◌≡◌, length}
use Rattle.ports_core.specs.Reason.{reason_in}
use Rattle.ports_core.proofs.reason.in_table.Given as goal

abbrev pub invariant-loop-table : goal.invariant-loop-table
invariant-loop-table l = reason_in l.fn.table l.number ≡ reason_in l.table l.number

abbrev pub decreases-loop-table : goal.decreases-loop-table
decreases-loop-table l = length l.table
