use Rattle.std.proofs.Common.{◌≡◌, map, drop}
use Rattle.words_core.specs.Table.{row_named, tool_seen}
use Rattle.words_core.proofs.table.find_row.Given as goal

abbrev pub invariant-loop-row : goal.invariant-loop-row
invariant-loop-row l = row_named (map tool_seen (drop l.row-index l.rows)) l.name ≡ row_named (map tool_seen l.rows) l.name
