use Rattle.std.proofs.{Common.{◌∙◌, ap, sym, arith}, lemmas.Grind.common_steps}
use Rattle.follow_core.specs.FollowState.{FollowState, was_over}
use Rattle.follow_core.proofs.follow.Follow.look.Goals as goal

pub returns-in-Over-clause-cause : goal.returns-in-Over-clause-cause
returns-in-Over-clause-cause g c = was_over (ap (λ (state : FollowState). state.phase) (sym c.self.view_is) ∙ c.in-Over.is)

pub returns-in-Err : goal.returns-in-Err
returns-in-Err g c = grind (arith, common_steps)

pub returns-in-Ok-clause-looked : goal.returns-in-Ok-clause-looked
returns-in-Ok-clause-looked g c = (rw (← c.self-in-Fresh.view_is) at c.in-Ok.ensures.makes).looked
