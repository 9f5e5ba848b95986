use Rattle.std.proofs.Common.{flat_map, ◌≡◌, ◌++◌, map, drop}
use Rattle.words_core.specs.{Help.option_line, Table.row_seen}
use Rattle.words_core.proofs.help.write_options.Given as goal

abbrev pub invariant-loop-row : goal.invariant-loop-row
invariant-loop-row l = l.text.items ++ flat_map option_line (map row_seen (drop l.row-index l.rows)) ≡ l.fn.text.items ++ flat_map option_line (map row_seen l.rows)
