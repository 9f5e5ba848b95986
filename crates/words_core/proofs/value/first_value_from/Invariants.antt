use Rattle.std.proofs.Common.{◌≡◌, map, length}
use Rattle.words_core.specs.{Value.values_from, inner.Value.value_seen}
use Rattle.words_core.proofs.value.first_value_from.Given as goal

abbrev pub invariant-loop-left : goal.invariant-loop-left
invariant-loop-left g l = values_from (map value_seen l.left) l.start ≡ values_from (map value_seen l.values) l.start

abbrev pub decreases-loop-left : goal.decreases-loop-left
decreases-loop-left g l = length l.left
