use Rattle.std.proofs.Common.{◌≡◌}
use Rattle.ports_core.specs.Slot.{streams}
use Rattle.engine_tests.proofs.tee_tests.plan_causes.Given as goal

abbrev pub invariant-loop-cause : goal.invariant-loop-cause
invariant-loop-cause l = l.outs ≡ streams
