use Rattle.engine_core.proofs.{SlotSteps.swept_none, WrittenLemmas.nothing_out}
use Rattle.ports_core.proofs.HandedOn.{fault_is}
use Rattle.std.proofs.{Common.{◌∙◌, refl, ap}, lemmas.Result.on_ok_weaker}
use Rattle.words_core.specs.CsplitWords.{CsplitAsked}
use Rattle.run_core.proofs.InputLemmas.{shows_something}
use Rattle.tools_core.proofs.{
  AdapterLemmas.{csplit_halts, no_memory, none_opened, only_looked_none, opened_of, opened_short, some_there},
}
use Rattle.csplit_core.specs.Csplit.{csplit_work}
use Rattle.tools_core.proofs.csplit.CsplitAdapterAdapter.open.Goals as goal

pub returns-in_err-style-clause-opens : goal.returns-in_err-style-clause-opens
returns-in_err-style-clause-opens g c =
    let (shown, says) = shows_something g.I.Inputs.visible c.args.source (g.I.Inputs.sources c.args.inputs.now) in (
      shown,
      says,
      (
        none_opened _ c.from_residual.result c.from_residual.ensures.0,
        fault_is _ _ _ c.from_residual.ensures.1 (no_memory refl c.requires.streams refl),
      ),
    )

pub returns-clause-opens : goal.returns-clause-opens
returns-clause-opens g c =
    let (shown, says) = shows_something g.I.Inputs.visible c.args.source (g.I.Inputs.sources c.args.inputs.now) in
    let same = c.in_ok-style.ensures ∙ ap (λ (asked : CsplitAsked). asked.style) c.settings.view_is in
    let is = ap (λ style. csplit_work style c.args.self.now.operands.now) same in (
      shown,
      says,
      (
        opened_of _ _ _ _ c.open.result is c.open.ensures.holds c.open.ensures.does c.open.ensures.bound c.open.ensures.ready c.open.ensures.owns
            (on_ok_weaker c.open.result (λ at. at _ (nothing_out _ _ (some_there _ c.requires.streams))) c.open.ensures.outputs),
        opened_short _ _ _ c.open.result _ _ is c.requires.streams (λ fault breaks none.
            let (unjudged, stops) = csplit_halts c.in_ok-style.style c.args.self.now.operands.now _ _ fault breaks in
            (unjudged, stops, swept_none _ _ _ none)) c.open.ensures.cut c.open.ensures.refused c.open.ensures.none,
      ),
    )

pub returns-clause-looked : goal.returns-clause-looked
returns-clause-looked g c = only_looked_none _ _ _
