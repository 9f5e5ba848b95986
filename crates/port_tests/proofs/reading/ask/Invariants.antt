use Rattle.std.proofs.Common.{◌≡◌, ℕ, false, nat_eq, IsTrue}
use Rattle.ports_core.specs.Source.{is_readable}
use Rattle.port_tests.proofs.reading.ask.Given as goal

abbrev pub invariant-loop-call : goal.invariant-loop-call
invariant-loop-call g l =
    (IsTrue l.is_sound → IsTrue (is_readable (g.I.Inputs.sources l.inputs) l.slot)) ×
    ((other : ℕ) → nat_eq other l.slot ≡ false → is_readable (g.I.Inputs.sources l.inputs) other ≡ is_readable (g.I.Inputs.sources l.fn.inputs) other)
