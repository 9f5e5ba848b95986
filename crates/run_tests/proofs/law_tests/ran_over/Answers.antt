use Rattle.run_tests.proofs.law_tests.ran_over.Goals as goal

pub returns : goal.returns
returns c asked read none = rw c.in_ok-inputs.ensures at (c.ran.ensures asked read none)
