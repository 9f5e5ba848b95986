use Rattle.std.proofs.Common.{◌≡◌, map, drop}
use Rattle.words_core.specs.Table.{option_named, row_seen}
use Rattle.words_core.proofs.table.find_option.Given as goal

abbrev pub invariant-loop-row : goal.invariant-loop-row
invariant-loop-row l = option_named (map row_seen (drop l.row-index l.rows)) l.name ≡ option_named (map row_seen l.rows) l.name
