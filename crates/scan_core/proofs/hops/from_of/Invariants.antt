use Rattle.std.proofs.Common.{◌≡◌, ◌↔◌, ◌+◌, ◌*◌, false}
use Rattle.scan_core.{specs.inner.Sets.Flows, proofs.Insides.AreBits}
use Rattle.scan_core.proofs.hops.from_of.Given as goal

abbrev pub invariant-loop-bit : goal.invariant-loop-bit
invariant-loop-bit l = AreBits (λ bit value. (value ≡ 1) ↔ Flows l.nodes false false (l.at * 64 + bit) l.to) l.bit l.word
