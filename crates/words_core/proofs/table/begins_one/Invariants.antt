use Rattle.std.proofs.Common.{◌≡◌, map, drop}
use Rattle.words_core.specs.Table.{begins_one}
use Rattle.words_core.proofs.table.begins_one.Given as goal

abbrev pub invariant-loop-known : goal.invariant-loop-known
invariant-loop-known l =
    begins_one (map (λ known. known.now) (drop l.known-index l.names)) l.start
    ≡ begins_one (map (λ known. known.now) l.names) l.start
