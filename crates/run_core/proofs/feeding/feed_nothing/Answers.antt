use Rattle.std.proofs.Common.{◌∙◌, [], sym, refl}
use Rattle.run_core.proofs.FeedingLemmas.{closed_at_start}
use Rattle.run_core.proofs.feeding.feed_nothing.Goals as goal

pub returns-then-done : goal.returns-then-done
returns-then-done g c = record {
  ends = closed_at_start g.S.Stage.terms g.met.S.Stage.lawful _ c.requires.fresh c.requires.bound
      (sym (c.done.ensures.complete [] c.requires.fresh) ∙ c.if-done.true, ([], refl)) c.end.ensures;
}

pub returns : goal.returns
returns g c = record {
  ends = closed_at_start g.S.Stage.terms g.met.S.Stage.lawful _ c.requires.fresh c.requires.bound
      (refl, sym (c.done.ensures.complete [] c.requires.fresh) ∙ c.if-done.false, refl) c.end-2.ensures;
}
