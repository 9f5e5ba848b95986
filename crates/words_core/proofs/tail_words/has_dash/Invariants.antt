use Rattle.std.proofs.Common.{◌≡◌, map, drop}
use Rattle.words_core.specs.TailWords.{has_dash}
use Rattle.words_core.proofs.tail_words.has_dash.Given as goal

abbrev pub invariant-loop-name : goal.invariant-loop-name
invariant-loop-name l = has_dash (map (λ name. name.now) (drop l.name-index l.names)) ≡ has_dash (map (λ name. name.now) l.names)
