use Rattle.std.{proofs.Common.{◌≡◌, ◌+◌, length}, specs.List.AllPass}
use Rattle.ports_core.specs.Slot.{can_write}
use Rattle.port_tests.proofs.dir_tests.open_many.Given as goal

abbrev pub invariant-loop-number : goal.invariant-loop-number
invariant-loop-number l = (length l.outs ≡ l.number-counter + 2) × AllPass can_write l.outs
