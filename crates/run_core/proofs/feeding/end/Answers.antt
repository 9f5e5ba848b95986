use Rattle.run_core.specs.inner.RunSteps.{finished, fell_short}
use Rattle.run_core.proofs.feeding.end.Goals as goal

pub returns-in-Ok : goal.returns-in-Ok
returns-in-Ok g c = finished _ c.in-Ok.ensures.finishes

pub returns-in-Err : goal.returns-in-Err
returns-in-Err g c = rw c.given_up.ensures.same (fell_short _ _ _ c.in-Err.ensures.finishes c.given_up.ensures.judged c.given_up.ensures.swept)
