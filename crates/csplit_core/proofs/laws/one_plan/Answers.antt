use Rattle.csplit_core.specs.laws.PlanLaws.{plan_runs, plan_once}
use Rattle.csplit_core.proofs.laws.one_plan.Goals as goal

pub returns : goal.returns
returns c = record { is = plan_runs; only = λ style operands lines other. plan_once }
