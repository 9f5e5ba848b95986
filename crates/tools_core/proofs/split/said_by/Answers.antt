use Rattle.std.proofs.Common.{ap, subst, sym}
use Rattle.run_core.{specs.RunSteps.IsShown, proofs.InputLemmas.shows_something}
use Rattle.split_core.specs.ChunkWork.{way_work}
use Rattle.tools_core.proofs.AdapterLemmas.{length_matters, said_shown}
use Rattle.tools_core.proofs.split.said_by.Goals as goal

pub returns-in-Some-clause-said : goal.returns-in-Some-clause-said
returns-in-Some-clause-said g c =
    let sources = g.I.Inputs.sources c.args.inputs.now in
    let (shown, says, is) = said_shown g.I.Inputs.visible c.in-Some.slot sources c.shown_or_limited.ensures.counted in (
      shown,
      subst (λ source. IsShown g.I.Inputs.visible source sources shown) (sym c.in-Some.is) says,
      λ elide filing. ap (way_work c.args.way.now elide filing) is,
    )

pub returns-in_default-clause-said : goal.returns-in_default-clause-said
returns-in_default-clause-said g c =
    let (shown, says) = shows_something g.I.Inputs.visible c.args.source (g.I.Inputs.sources c.args.inputs.now) in
    (shown, says, length_matters c.args.way.now c.in_default.not-Chunks c.in_default.not-Chunk _ _)
