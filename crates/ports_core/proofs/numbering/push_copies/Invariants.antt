use Rattle.std.proofs.Common.{◌≡◌, ◌++◌, replicate, string_bytes}
use Rattle.ports_core.proofs.numbering.push_copies.Given as goal

abbrev pub invariant-copies : goal.invariant-copies
invariant-copies l = string_bytes l.name ≡ string_bytes l.fn.name ++ replicate l.counter l.character
