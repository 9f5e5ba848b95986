use Rattle.std.proofs.Common.{◌≡◌, map, drop}
use Rattle.words_core.specs.{Refusal.unknown_among, Table.row_seen}
use Rattle.words_core.proofs.refusal.unknown_among.Given as goal

abbrev pub invariant-loop-letter : goal.invariant-loop-letter
invariant-loop-letter l = unknown_among (map row_seen l.rows) (drop l.letter-index l.letters)
    ≡ unknown_among (map row_seen l.rows) l.letters
