-- Lemmas on chunks of an input of which no byte came in yet.
use Rattle.std.proofs.lemmas.Grind.{common_steps}
use Rattle.std.proofs.Common.{rules}
use Rattle.std.proofs.{
  Common.{◌≡◌, ℕ, ◌<◌, Bool, true, false, List, [], Option, Some, None, IfSome, refl, sym, ◌∙◌, ap, subst, arith},
  Common.{inl, zero, suc, max},
  Math.Seq.{drop-nil, take-nil},
}
use Rattle.seg_core.specs.declared.{cut.Chunks.Chunks}
use Rattle.engine_core.{specs.{Draft.draft_part, Written.nothing}, proofs.ShareLemmas.nothing_part}
use Rattle.split_core.specs.{
  ChunkWork.{draft_by, piece_at},
  Split.{Filing, manner_of},
  Parts.uncut,
  Chunks.{chunks_within, decided},
  ChunkerState.{Carries, Course, CutterState, HasAll, HasCut, HoldsBy, SinkState, can_cut, course_of, in_files},
  ChunkerState.{in_output, work_on},
  laws.BegunLaws.begun_of_none,
}
use Rattle.split_core.proofs.{UnsaidLemmas.none_within, CutterLemmas.some_of}

module _ (chunks : Chunks) (sink : SinkState) (can : can_cut (course_of sink.aim) chunks.count ≡ true)
    (all : HasAll (course_of sink.aim) chunks.count) (fresh : Carries sink (uncut [])) where
  abbrev cutter : CutterState
  cutter = record { chunks = chunks; at = 0; is_within = false; sink = sink }

  has_none : HasCut cutter [] (uncut [])
  has_none = grind (arith, common_steps)

  -- no byte came in
  pub holds_none : (said : Option ℕ) (waiting : List ℕ) → waiting ≡ [] → IfSome said (λ size. 0 < size)
      → HoldsBy said (record { said = said; cutter = cutter; waiting = waiting; spare = 0 }) []
  holds_none None waiting none long = grind (arith, common_steps, begun_of_none, has_none, drop-nil)
  holds_none (Some size) waiting none long = record {
    spare = record { used = []; rest = []; joined = refl; long = refl; needed = inl refl; enough = inl refl };
    within = omega arith;
    cut = subst (HasCut cutter []) (sym (none_within _ _ (some_of _ _ can) long)) has_none;
    waits = none;
  }

-- nothing is settled

none_decided : (chunks : Chunks) (first : ℕ) (said : Option ℕ) → 0 < chunks.count → IfSome said (λ size. 0 < size)
    → decided chunks first said [] ≡ uncut []
none_decided chunks first None count long = search rules
none_decided chunks first (Some size) count long =
    ap (chunks_within chunks size) (take-nil size) ∙ none_within _ _ count long

no_piece : (place : ℕ) → piece_at place (uncut []) ≡ nothing
no_piece zero = refl
no_piece (suc place) = refl

no_file : (filing : Filing) (elide : Bool) → draft_part (manner_of filing) (draft_by elide (uncut [])) ≡ nothing
no_file filing true = nothing_part _
no_file filing false = nothing_part _

pub settled_none : (on : Course) (chunks : Chunks) (said : Option ℕ) → can_cut on chunks.count ≡ true
    → IfSome said (λ size. 0 < size) → (work_on on chunks said).settled [] ≡ nothing
settled_none (in_files filing elide) chunks said can long =
    ap (λ cut. draft_part (manner_of filing) (draft_by elide cut)) (none_decided chunks 1 said (some_of (in_files filing elide) _ can) long)
    ∙ no_file filing elide
settled_none (in_output chunk) chunks said can long =
    ap (piece_at chunk) (none_decided chunks (max chunk 1) said (some_of (in_output chunk) _ can) long) ∙ no_piece chunk
