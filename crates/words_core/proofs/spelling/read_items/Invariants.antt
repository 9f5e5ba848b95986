use Rattle.std.proofs.Common.{◌≡◌, ◌+◌, map, length}
use Rattle.words_core.specs.{Table.row_seen, Spelling.{given_before, spelled}}
use Rattle.words_core.proofs.spelling.read_items.Given as goal

abbrev pub invariant-loop-left : goal.invariant-loop-left
invariant-loop-left l = record {
  spells : given_before l.spelled (spelled (map row_seen l.rows) (map (λ word. word.now) l.left) l.place l.state)
      ≡ spelled (map row_seen l.rows) (map (λ word. word.now) l.words) 1 l.fn.start;
  places : l.place + length l.left ≡ 1 + length l.words;
}

abbrev pub decreases-loop-left : goal.decreases-loop-left
decreases-loop-left l = length l.left
