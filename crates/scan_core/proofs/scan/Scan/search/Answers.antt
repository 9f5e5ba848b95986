use Rattle.std.proofs.{Common.{arith}, lemmas.Grind.common_steps}
use Rattle.scan_core.proofs.Codes.{found_contains, bound_of}
use Rattle.scan_core.proofs.scan.Scan.search.Goals as goal

pub returns-in-Some-clause-exact : goal.returns-in-Some-clause-exact
returns-in-Some-clause-exact c = found_contains _ c.walk.ensures.order c.in-Some.ensures.outcome.exact

pub returns-in-Some-clause-bound : goal.returns-in-Some-clause-bound
returns-in-Some-clause-bound c = bound_of _ _ c.walk.ensures.order c.in-Some.ensures.outcome.bound

pub returns-clause-exact : goal.returns-clause-exact
returns-clause-exact c = found_contains _ c.search.ensures.order c.search.ensures.outcome.exact

pub returns-clause-bound : goal.returns-clause-bound
returns-clause-bound c = bound_of _ _ c.search.ensures.order c.search.ensures.outcome.bound

pub invariant_of-self : goal.invariant_of-self
invariant_of-self c = grind (arith, common_steps)
