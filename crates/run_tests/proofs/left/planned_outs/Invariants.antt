use Rattle.std.proofs.Common.{◌≡◌}
use Rattle.ports_core.specs.Slot.{streams}
use Rattle.run_tests.proofs.left.planned_outs.Given as goal

abbrev pub invariant-loop-plan : goal.invariant-loop-plan
invariant-loop-plan l = l.outs ≡ streams
