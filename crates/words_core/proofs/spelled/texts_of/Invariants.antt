use Rattle.std.proofs.Common.{◌≡◌, map, take}
use Rattle.words_core.specs.Given.{operand_seen, texts_of}
use Rattle.words_core.proofs.spelled.texts_of.Given as goal

abbrev pub invariant-loop-operand : goal.invariant-loop-operand
invariant-loop-operand l = map (λ text. text.now) l.texts.items ≡ texts_of (map operand_seen (take l.operand-index l.operands))
