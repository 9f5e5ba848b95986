use Rattle.std.proofs.Common.{◌∙◌, ◌-◌, ap, sym}
use Rattle.split_core.{
  specs.{ChunkerState.{ChunkerState, course, course_of}, inner.{Chunker.piece_for, Seen.seen_aim}},
  proofs.WantedLemmas.{few_of_chunk, few_of_files, few_unsaid},
}
use Rattle.split_core.proofs.chunker.Chunker.most_wanted.Goals as goal

pub returns-in-Some-Output-clause-few : goal.returns-in-Some-Output-clause-few
returns-in-Some-Output-clause-few c = few_of_chunk _ _ _ _
    (ap (λ (state : ChunkerState). state.said) (sym c.self.view_is) ∙ c.in-Some-Output.is-0)
    (ap (λ (state : ChunkerState). course state.cutter) (sym c.self.view_is) ∙ ap (λ aim. course_of (seen_aim aim)) c.in-Some-Output.is-1)
    (rw (← c.self.view_is) (c.piece_size.ensures ∙ ap (piece_for c.self.inside.cutter.chunks.unit)
    (c.saturating_sub-missing.ensures ∙ ap (λ n. n - c.self.inside.cutter.at) c.chunk_start-end.ensures)))

pub returns-in_default-clause-few : goal.returns-in_default-clause-few
returns-in_default-clause-few c = few_of_files _ _ _ _
    (ap (λ (state : ChunkerState). course state.cutter) (sym c.self.view_is) ∙ ap (λ aim. course_of (seen_aim aim)) c.in_default.is-1)

pub returns-in_default-2-clause-few : goal.returns-in_default-2-clause-few
returns-in_default-2-clause-few c = few_unsaid _ _ (ap (λ (state : ChunkerState). state.said) (sym c.self.view_is) ∙ c.in_default.is-0)
