use Rattle.std.proofs.Common.{◌≡◌, drop}
use Rattle.words_core.specs.Lettered.{unit_in}
use Rattle.words_core.proofs.lettered.unit_in.Given as goal

abbrev pub invariant-loop-letter : goal.invariant-loop-letter
invariant-loop-letter l = unit_in (drop l.letter-index l.letters) ≡ unit_in l.letters
