use Rattle.std.{proofs.Common.{◌∙◌, ap, sym}, specs.Option.is_some}
use Rattle.split_core.{specs.{ChunkerState.ChunkerState, inner.Seen.is_past_on}, proofs.WantedLemmas.complete_is}
use Rattle.split_core.proofs.chunker.Chunker.is_complete.Goals as goal

pub returns-then-is_some : goal.returns-then-is_some
returns-then-is_some c x holds = c.is_past.ensures ∙ ap (λ (state : ChunkerState). is_past_on state.cutter.sink) c.self.view_is
    ∙ complete_is _ x (ap (λ (state : ChunkerState). is_some state.said) (sym c.self.view_is) ∙ sym c.is_some.ensures ∙ c.if-is_some.true) holds
