use Rattle.std.proofs.Common.{◌≡◌, map, take}
use Rattle.words_core.specs.Given.{operand_seen, places_of}
use Rattle.words_core.proofs.spelled.places_of.Given as goal

abbrev pub invariant-loop-operand : goal.invariant-loop-operand
invariant-loop-operand l = l.places.items ≡ places_of (map operand_seen (take l.operand-index l.operands))
