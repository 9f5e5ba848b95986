use Rattle.std.proofs.Common.{◌≡◌, map, length, IsUtf8}
use Rattle.words_core.specs.{Table.row_seen, Spelling.{before, cluster}}
use Rattle.words_core.proofs.spelling.read_cluster.Given as goal

abbrev pub invariant-loop-left : goal.invariant-loop-left
invariant-loop-left l = record {
  spells : before l.spelled (cluster (map row_seen l.rows) l.place l.left)
      ≡ before l.fn.spelled (cluster (map row_seen l.rows) l.place l.letters);
  text : IsUtf8 l.left;
}

abbrev pub decreases-loop-left : goal.decreases-loop-left
decreases-loop-left l = length l.left
