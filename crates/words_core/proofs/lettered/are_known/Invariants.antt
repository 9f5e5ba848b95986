use Rattle.std.proofs.Common.{◌≡◌, ◌≤◌, ◌+◌, ◌&&◌, drop, filter, length, map}
use Rattle.std.specs.{List.list_all, Prelude.nat_lt}
use Rattle.words_core.specs.{Lettered.{are_known, is_known, is_unit}, Table.row_seen}
use Rattle.words_core.proofs.lettered.are_known.Given as goal

abbrev pub invariant-loop-letter : goal.invariant-loop-letter
invariant-loop-letter l = let left = drop l.letter-index l.letters in record {
  known : (list_all (is_known (map row_seen l.rows)) left && nat_lt (l.units + length (filter is_unit left)) 2)
      ≡ are_known (map row_seen l.rows) l.letters;
  few : l.units ≤ l.letter-index;
}
