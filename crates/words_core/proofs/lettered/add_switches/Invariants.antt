use Rattle.std.proofs.Common.{◌≡◌, drop, map, true}
use Rattle.std.specs.List.{list_all}
use Rattle.words_core.specs.{Lettered.{is_known, others}, Spelling.{before, cluster}, Table.row_seen}
use Rattle.words_core.proofs.lettered.add_switches.Given as goal

abbrev pub invariant-loop-letter : goal.invariant-loop-letter
invariant-loop-letter l = let left = drop l.letter-index l.letters in record {
  spells : before l.spelled (cluster (map row_seen l.rows) l.place (others left))
      ≡ before l.fn.spelled (cluster (map row_seen l.rows) l.place (others l.letters));
  known : list_all (is_known (map row_seen l.rows)) left ≡ true;
}
