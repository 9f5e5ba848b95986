use Rattle.std.proofs.Common.{◌≡◌}
use Rattle.ports_core.specs.Slot.{streams}
use Rattle.engine_tests.proofs.tee_tests.outs_of.Given as goal

abbrev pub invariant-loop-limit : goal.invariant-loop-limit
invariant-loop-limit l = l.outs ≡ streams
