use Rattle.run_core.{
  specs.inner.RunSteps.not_begun,
  proofs.InputLemmas.{fresh_counts, fresh_is, ran_into, ran_through, stop_open, none_touched},
}
use Rattle.std.proofs.Common.{◌∙◌, map, refl, ap, length}
use Rattle.ports_core.proofs.{InputsLemmas.fresh_asks, Runs.as_status}
use Rattle.run_core.proofs.inputs.run_inputs.Goals as goal

pub returns-in_default : goal.returns-in_default
returns-in_default g c = record {
  untouched = λ none. refl;
  ends = let (found, finds, untouched) = none_touched (fresh_is c.requires.fresh) in
      let tells = rw c.speaker.ensures at c.tell.ensures in
      (found, finds, ran_into (not_begun c.requires.outputs untouched (ap length c.requires.fresh.only)) tells.told tells.status);
  opened = fresh_counts (map (λ name. name.now) c.args.names.now) c.requires.fresh;
  asked = fresh_asks _ _ c.requires.fresh;
}

pub tell-requires-in-Err : goal.tell-requires-in-Err
tell-requires-in-Err g c = stop_open c.in-Err.ensures.took.2

pub returns-in-Ok-take_names-clause-ends : goal.returns-in-Ok-take_names-clause-ends
returns-in-Ok-take_names-clause-ends g c = let (found, finds, took) = c.in-Ok-take_names.ensures.took in (found, finds, ran_through (c.from.ensures ∙ as_status c.in-Ok-take_names.failed) took)

pub returns-clause-ends : goal.returns-clause-ends
returns-clause-ends g c =
    let (found, finds, took) = c.in-Err.ensures.took in
    let tells = rw c.speaker-in-Err.ensures at c.tell-in-Err.ensures in (found, finds, ran_into took tells.told tells.status)
