use Rattle.std.proofs.Common.{ap, Err, inl, inr, refl, rules}
use Rattle.ports_core.proofs.HandedOn.{handed_on}
use Rattle.run_core.{
  specs.Feeding.is_stop,
  proofs.InputLemmas.{of_source_too, shows_something, from_source, headed, stopped_in_header, took_well, took_broken},
  proofs.InputLemmas.{took_verdict, took_stopped, fed_open, unread_source},
}
use Rattle.run_core.proofs.inputs.take_input.Goals as goal

pub returns-in_err-put_header-clause-took : goal.returns-in_err-put_header-clause-took
returns-in_err-put_header-clause-took g c had =
    let (shown, says) = shows_something g.I.Inputs.visible c.args.source (g.I.Inputs.sources c.args.inputs.now) in
    (shown, says, search (rules, handed_on, unread_source, stopped_in_header))

pub say_why-requires : goal.say_why-requires
say_why-requires g c =
    let had = c.requires.outputs in
    let (shown, says, fed) = c.in-Ok-Broken.ensures.fed in
    from_source _ _ _ _ _ _ (λ content fed done. fed_open _ had.opened (headed _ had.at c.in_ok-put_header.ensures.ok) fed) fed

pub say_why-requires-in-Err : goal.say_why-requires-in-Err
say_why-requires-in-Err g c =
    let had = c.requires.outputs in
    let (shown, says, fed) = c.in-Err.ensures.fed in
    from_source _ _ _ _ _ _ (λ content fed done. fed_open _ had.opened (headed _ had.at c.in_ok-put_header.ensures.ok) fed) fed

pub returns-in-Ok-Whole-clause-took : goal.returns-in-Ok-Whole-clause-took
returns-in-Ok-Whole-clause-took g c had =
    let (shown, says, fed) = c.in-Ok-Whole.ensures.fed in (
      shown,
      says,
      of_source_too _ _ _ _ _ _ (λ content fed done. took_well _ _ _ _ _ _ _ _ _ _ had
          c.in_ok-put_header.ensures.ok (done refl) (inl c.in-Ok-Whole.field-0-is) fed) fed,
    )

pub returns-in-Ok-Enough-clause-took : goal.returns-in-Ok-Enough-clause-took
returns-in-Ok-Enough-clause-took g c had =
    let (shown, says, fed) = c.in-Ok-Enough.ensures.fed in (
      shown,
      says,
      of_source_too _ _ _ _ _ _ (λ content fed done. took_well _ _ _ _ _ _ _ _ _ _ had
          c.in_ok-put_header.ensures.ok (done refl) (inr c.in-Ok-Enough.field-0-is) fed) fed,
    )

pub returns-in-Ok-Broken-clause-took : goal.returns-in-Ok-Broken-clause-took
returns-in-Ok-Broken-clause-took g c had =
    let (shown, says, fed) = c.in-Ok-Broken.ensures.fed in (
      shown,
      says,
      of_source_too _ _ _ _ _ _ (λ content fed done. took_broken _ _ _ _ _ _ _ _ _ _ had
          c.in_ok-put_header.ensures.ok (done refl) c.in-Ok-Broken.field-0-is fed c.say_why.ensures) fed,
    )

pub returns-in_default : goal.returns-in_default
returns-in_default g c = record {
  took = λ had. let (shown, says, fed) = c.in-Err.ensures.fed in (
    shown,
    says,
    of_source_too _ _ _ _ _ _ (λ content fed done. took_stopped _ _ _ _ _ _ _ _ _ _ had
        c.in_ok-put_header.ensures.ok c.in_default.not-Verdict fed) fed,
  );
  asked = c.in-Err.ensures.asked;
  others = c.in-Err.ensures.others;
  laid = c.in-Err.ensures.laid;
}

pub returns-in-Verdict-clause-took : goal.returns-in-Verdict-clause-took
returns-in-Verdict-clause-took g c had =
    let (shown, says, fed) = c.in-Err.ensures.fed in (
      shown,
      says,
      of_source_too _ _ _ _ _ _ (λ content fed done. took_verdict _ _ _ _ _ _ _ _ _ _ had
          c.in_ok-put_header.ensures.ok (done (ap (λ fault. is_stop (Err fault)) c.in-Verdict.is))
          (rw c.in-Verdict.is at fed) (rw c.subject-subject.ensures at c.say_why-in-Err.ensures)) fed,
    )
