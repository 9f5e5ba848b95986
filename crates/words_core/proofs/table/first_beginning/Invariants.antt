use Rattle.std.proofs.Common.{◌≡◌, map, length}
use Rattle.words_core.specs.Table.{beginning, row_seen}
use Rattle.words_core.proofs.table.first_beginning.Given as goal

abbrev pub invariant-loop-left : goal.invariant-loop-left
invariant-loop-left l = beginning (map row_seen l.left) l.start ≡ beginning (map row_seen l.rows) l.start

abbrev pub decreases-loop-left : goal.decreases-loop-left
decreases-loop-left l = length l.left
