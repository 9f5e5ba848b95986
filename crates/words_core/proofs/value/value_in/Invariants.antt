use Rattle.std.proofs.Common.{◌≡◌, map, drop}
use Rattle.words_core.specs.{Value.value_in, inner.Value.value_seen}
use Rattle.words_core.proofs.value.value_in.Given as goal

abbrev pub invariant-loop-value : goal.invariant-loop-value
invariant-loop-value g l = value_in (map value_seen (drop l.value-index l.values)) l.text ≡ value_in (map value_seen l.values) l.text
