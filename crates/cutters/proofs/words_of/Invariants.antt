use Rattle.std.proofs.Common.{◌≡◌, ◌++◌, map, drop, string_bytes}
use Rattle.cutters.proofs.words_of.Given as goal

abbrev pub invariant-loop-arg : goal.invariant-loop-arg
invariant-loop-arg l = map (λ text. text.now) l.texts.items ++ map string_bytes (drop l.arg-index l.args) ≡ map string_bytes l.args
