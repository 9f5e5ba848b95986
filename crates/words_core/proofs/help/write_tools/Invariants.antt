use Rattle.std.proofs.Common.{flat_map, ◌≡◌, ◌++◌, map, drop}
use Rattle.words_core.specs.{Help.tool_line, Table.tool_seen}
use Rattle.words_core.proofs.help.write_tools.Given as goal

abbrev pub invariant-loop-row : goal.invariant-loop-row
invariant-loop-row l = l.text.items ++ flat_map tool_line (map tool_seen (drop l.row-index l.rows)) ≡ l.fn.text.items ++ flat_map tool_line (map tool_seen l.rows)
