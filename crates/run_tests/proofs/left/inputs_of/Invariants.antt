use Rattle.ports_core.specs.Source.{IsFresh}
use Rattle.run_tests.proofs.left.inputs_of.Given as goal

abbrev pub invariant-loop-file : goal.invariant-loop-file
invariant-loop-file l = IsFresh l.inputs.sources
