use Rattle.std.proofs.Common.{◌≡◌, ◌⊎◌, ◌+◌, ◌*◌, ℕ, false}
use Rattle.scan_core.{specs.inner.{Sets.Flows, Words.IsIn}, proofs.Insides.AreBits}
use Rattle.scan_core.proofs.closures.leading.Given as goal

abbrev pub invariant-loop-bit : goal.invariant-loop-bit
invariant-loop-bit l = AreBits (λ bit value. (to : ℕ) → Flows l.nodes false false (l.at * 64 + bit) to → (value ≡ 1) ⊎ IsIn l.words to) l.bit l.word
