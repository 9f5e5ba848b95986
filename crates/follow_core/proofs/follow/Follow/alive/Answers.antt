use Rattle.std.proofs.{Common.{◌∙◌, ap, arith, rules}, lemmas.Grind.common_steps}
use Rattle.follow_core.{
  specs.{FollowState.FollowState, inner.Visits.any_goes_on},
  proofs.LookedLemmas.{alive_from, fresh_alive, goes_on_there, none_going},
}
use Rattle.follow_core.proofs.follow.Follow.alive.Goals as goal

pub returns-clause-alive : goal.returns-clause-alive
returns-clause-alive c visible asked looks watched slots holds =
    c.any_goes_on.ensures ∙ ap (any_goes_on c.self.inside.by_name) c.deref.ensures.value
    ∙ ap (λ (state : FollowState). any_goes_on state.by_name state.names) c.self.view_is ∙ search (rules, alive_from, fresh_alive, goes_on_there)

pub returns-clause-none : goal.returns-clause-none
returns-clause-none c visible_in visible asked looks watched slots holds some ends = none_going holds some
    (grind (arith, common_steps, ends))
