use Rattle.std.proofs.Common.{◌≡◌, map, drop}
use Rattle.words_core.specs.Table.{is_among}
use Rattle.words_core.proofs.table.is_among.Given as goal

abbrev pub invariant-loop-known : goal.invariant-loop-known
invariant-loop-known l = is_among (map (λ known. known.now) (drop l.known-index l.names)) l.name ≡ is_among (map (λ known. known.now) l.names) l.name
