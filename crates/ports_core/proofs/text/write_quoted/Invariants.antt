use Rattle.std.proofs.Common.{◌≡◌, ◌++◌, take}
use Rattle.ports_core.specs.Text.{without_zero}
use Rattle.ports_core.proofs.text.write_quoted.Given as goal

abbrev pub invariant-loop-byte : goal.invariant-loop-byte
invariant-loop-byte l = l.text.items ≡ l.initial.text.items ++ without_zero (take l.byte-index l.byte-items)
