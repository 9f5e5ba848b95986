use Rattle.std.proofs.Common.{◌∙◌, ap, sym}
use Rattle.csplit_core.{specs.{CsplitState.CsplitState, Output.Style}, proofs.StageLemmas.sweeps}
use Rattle.csplit_core.proofs.csplitter.CsplitterStage.clear.Goals as goal

pub returns-then-not-style : goal.returns-then-not-style
returns-then-not-style g c = sweeps c.args.self.now _ (ap (λ (stage : CsplitState). stage.cutter) c.self.view_is) (ap (λ (stage : CsplitState). stage.taken) c.self.view_is) c.clear.ensures
    (sym (ap (λ (style : Style). style.keep) (c.behind-self.view_is ∙ c.style.ensures) ∙ ap (λ (stage : CsplitState). stage.cutter.style.keep) c.self.view_is) ∙ c.if-not-style.true) c.requires
