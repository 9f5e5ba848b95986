use Rattle.std.proofs.{Common.{not, refl, ◌∙◌, ap, sym}, lemmas.Bool.false≢true}
use Rattle.ports_core.proofs.HandedOn.{handed_on}
use Rattle.run_core.{
  proofs.{
    InputLemmas.{looked_can, looked_unread, of_looked, unread_source, still_within, left_of},
    FeedingLemmas.fed_so,
  },
  specs.Feeding.{opens, stopped},
}
use Rattle.run_core.proofs.inputs.feed_source.Goals as goal

pub returns-in_err-engine-clause-fed : goal.returns-in_err-engine-clause-fed
returns-in_err-engine-clause-fed g c =
    let looked = c.in_err-engine.ensures.looked in
    let (shown, says, (opened, short)) = c.in_err-engine.ensures.opens in
    rw (handed_on _ _ c.from_residual.ensures.1) (
      shown,
      says,
      of_looked _ _ _ _ _ _ looked
          (unread_source _ _ _ _ (looked_can _ _ _ _ looked c.requires.input) (looked_unread _ _ _ _ looked c.requires.unread) (λ content unread. (
            stopped _ short.unjudged (record {
              step = _;
              is = (opens, unread _ refl refl);
              reached = short.reached;
              stops = short.why;
              between = short.stop;
              swept = short.swept;
            }),
            λ ends. absurd (false≢true (sym ends ∙ ap not short.unjudged)),
          ))),
    )

pub returns-in-Some-clause-fed : goal.returns-in-Some-clause-fed
returns-in-Some-clause-fed g c =
    let looked = c.in_ok-engine.ensures.looked in
    let (shown, says, (had, short)) = c.in_ok-engine.ensures.opens in
    let can = looked_can _ _ _ _ looked c.requires.input in
    let unread = looked_unread _ _ _ _ looked c.requires.unread in (
      shown,
      says,
      of_looked _ _ _ _ _ _ looked
          (rw (c.in-Some.is, ← c.open.auto.buffer, ← had.does) (left_of _ _ _ (still_within c.in-Some.is can c.feed_input.ensures.others)
          (λ content. fed_so (λ call is. (is.0, (is.1, λ visible. is.2 visible (rw c.in-Some.is at unread)))))
          (λ visible ends. c.feed_input.ensures.used visible ends (rw c.in-Some.is at unread))
          (c.feed_input.ensures.ends _ _ (had.owns, rw (← had.does) at had.outputs)))),
    )

pub returns-clause-fed : goal.returns-clause-fed
returns-clause-fed g c =
    let looked = c.in_ok-engine.ensures.looked in
    let (shown, says, (had, short)) = c.in_ok-engine.ensures.opens in (
      shown,
      says,
      of_looked _ _ _ _ _ _ looked (rw (c.in-None.is, ← had.does) (
        fed_so (λ call is. (is, tt)) (c.feed_nothing.ensures.ends _ _ _ (had.owns, rw (← had.does) at had.outputs)),
        λ ends. tt,
      )),
    )
