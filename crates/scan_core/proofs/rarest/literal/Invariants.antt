use Rattle.std.proofs.Common.{◌≡◌, ◌+◌, length}
use Rattle.scan_core.specs.inner.Needles.{IsLiteral}
use Rattle.scan_core.proofs.rarest.literal.Given as goal

abbrev pub invariant-loop-at : goal.invariant-loop-at
invariant-loop-at l = record {
  all : l.from + length l.text.items ≡ l.at;
  literal : IsLiteral l.nodes l.from l.text.items;
}
