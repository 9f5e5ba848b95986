use Rattle.ports_core.specs.Source.{IsFresh}
use Rattle.run_tests.proofs.left.planned_inputs.Given as goal

abbrev pub invariant-loop-plan : goal.invariant-loop-plan
invariant-loop-plan l = IsFresh l.inputs.sources
