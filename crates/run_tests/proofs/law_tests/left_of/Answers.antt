use Rattle.run_tests.proofs.law_tests.left_of.Goals as goal

pub returns : goal.returns
returns c asked read none strict = rw c.in_ok-inputs.ensures at (c.left_over.ensures asked read none strict)
