use Rattle.std.proofs.Common.{◌≡◌, ◌↔◌, ◌+◌, ◌*◌}
use Rattle.scan_core.{specs.inner.Words.IsOf, proofs.Insides.AreBits}
use Rattle.scan_core.proofs.masks.word_of.Given as goal

abbrev pub invariant-loop-bit : goal.invariant-loop-bit
invariant-loop-bit l = AreBits (λ bit value. (value ≡ 1) ↔ IsOf l.nodes l.kind (l.at * 64 + bit)) l.bit l.word
