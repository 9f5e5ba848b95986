-- Lemmas on when one chunk is complete, and on how many bytes are wanted until then.
use Rattle.std.proofs.lemmas.Grind.{common_steps}
use Rattle.std.{
  proofs.Common.{◌≡◌, ℕ, ◌+◌, ◌-◌, ◌≤◌, nat_lt, take, Bool, true, false, List, ◌++◌, length, Option, Some, None, inl},
  proofs.Common.{inr, refl, sym, ◌∙◌, ap, subst, arith},
  proofs.lemmas.{Bool.{false≢true, cases_lt, leb-true}, List.{append-nil, length-append, take_at}},
  specs.Option.is_some,
}
use Rattle.engine_core.{specs.{Engine.MayGet, Work.{IsSpare, Work}}, proofs.SpareLemmas.{none_spare, spare_within}}
use Rattle.seg_core.specs.declared.cut.Chunks.{Chunks}
use Rattle.split_core.specs.{
  Alike.as_if,
  Chunks.{chunk_start, has_ended},
  ChunkWork.{ahead_of, chunk_work},
  ChunkerState.{ChunkerState, Holds, HoldsBy, course, can_cut, in_files, in_output, work, work_on},
  Split.Filing,
  inner.{Chunker.piece_for, Cutter.said_work, Seen.is_past_on},
  laws.{BegunLaws.open_within, ChunkLaws.{passed_full, passed_open}, WorkLaws.{holds_can, lawful, work_lawful}},
}
use Rattle.split_core.proofs.{
  AlikeLemmas.complete_as,
  ChunkerLemmas.{cut_is, is_said, past_is},
  RoundLemmas.open_after,
}
use Rattle.split_core.specs.Ways as ways
use Rattle.split_core.specs.declared.splitter.Splitter.TheVariants as way

-- what came in completes the output if what is used does
complete_by : (said : Option ℕ) (state : ChunkerState) (x : List ℕ) → is_some said ≡ true → HoldsBy said state x
    → is_past_on state.cutter.sink ≡ (work_on (course state.cutter) state.cutter.chunks said).is_complete x
complete_by None state x some holds = cc
complete_by (Some size) state x some holds = past_is (cut_is holds) ∙ elim holds.spare.enough [
  | inl none ↦ ap (said_work state.cutter size).is_complete
      (sym (holds.spare.joined ∙ ap (λ rest. holds.spare.used ++ rest) none ∙ append-nil holds.spare.used))
  | inr complete ↦ complete
      ∙ sym (ap (said_work state.cutter size).is_complete holds.spare.joined
      ∙ ((work_lawful (course state.cutter) state.cutter.chunks (Some size) holds.cut.can).stays holds.spare.used holds.spare.rest complete).still)
]

pub complete_is : (state : ChunkerState) (x : List ℕ) → is_some state.said ≡ true → Holds state x
    → is_past_on state.cutter.sink ≡ (work state).is_complete x
complete_is state x some holds = complete_by state.said state x some holds

-- if the input doesn't show its length, the output is never complete

-- How much is wanted

-- a text that has all of a chunk reaches its end
reaches : (chunks : Chunks) (size chunk : ℕ) (x : List ℕ) → has_ended chunks size x chunk ≡ true
    → chunk_start chunks.count size (chunk + 1) ≤ length x
reaches chunks size chunk x has = grind (arith, common_steps, cases_lt, leb-true, passed_open, open_within, passed_full)

few_past : (chunk : ℕ) (chunks : Chunks) (size : ℕ) (x piece : List ℕ) (n : ℕ) → nat_lt chunk chunks.count ≡ true
    → length piece ≤ piece_for chunks.unit (chunk_start chunks.count size (chunk + 1) - length x)
    → has_ended chunks size x chunk ≡ false
    → IsSpare (chunk_work chunk chunks (Some size)) (x ++ piece) n → n ≤ ahead_of chunks.unit
few_past chunk chunks size x piece n can few going spare = elim spare.enough [
  | inl none ↦ omega (arith, ap length none, spare.long)
  | inr complete ↦ elim (cases_lt (length x) (length spare.used)) [
    | inl more ↦ omega (
      arith,
      reaches chunks size chunk spare.used complete,
      few,
      more,
      long,
      length-append spare.used spare.rest,
      length-append x piece,
      spare.long,
    )
    | inr within ↦
        let same : length spare.used ≡ length x = omega (
          arith,
          within,
          long,
          length-append spare.used spare.rest,
          length-append x piece,
          spare.long,
          spare_within (chunk_work chunk chunks (Some size)) (length piece) n (x ++ piece)
              (work_lawful (in_output chunk) chunks (Some size) can) (inr (x, piece, refl, omega (arith), going)) spare,
        ) in
        absurd (false≢true (sym going ∙ ap (λ x. has_ended chunks size x chunk)
        (sym (take_at x piece (length x) refl) ∙ ap (take (length x)) spare.joined ∙ take_at spare.used spare.rest (length x) same) ∙ complete))
  ]
] where
  long : length (x ++ piece) ≡ length (spare.used ++ spare.rest)
  long = ap length spare.joined

-- while the engine goes on, all that came in was cut off
all_cut : (state : ChunkerState) (size : ℕ) (x : List ℕ) → state.said ≡ Some size → (work state).is_complete x ≡ false
    → Holds state x
    → state.cutter.at ≡ length x
all_cut state size x said going holds = grind (arith, common_steps, is_said, length-append, false≢true, complete_is, past_is, cut_is)

pub few_of_chunk : (state : ChunkerState) (size chunk most : ℕ) → state.said ≡ Some size
    → course state.cutter ≡ in_output chunk
    → most ≡ piece_for state.cutter.chunks.unit
    (chunk_start state.cutter.chunks.count size (chunk + 1) - state.cutter.at)
    → MayGet (as_if ways.terms) (way.Chunks state) most
few_of_chunk state size chunk most said on is x piece after n holds going within same later spare =
    let z = holds.other in
    let chunks = state.cutter.chunks in
    let it : work state ≡ chunk_work chunk chunks (Some size) =
    ap (λ on. work_on on chunks state.said) on ∙ ap (chunk_work chunk chunks) said in
    let can : nat_lt chunk chunks.count ≡ true =
    sym (ap (λ on. can_cut on chunks.count) on) ∙ holds_can _ _ z holds.holds in
    let still : (work state).is_complete z ≡ false = sym (complete_as holds.alike) ∙ going in
    let cut : state.cutter.at ≡ length z = all_cut _ _ z said still holds.holds in
    let few : n ≤ ahead_of chunks.unit = few_past _ _ _ z _ n can
    (omega (arith, cut))
    (sym (ap (λ (those : Work). those.is_complete z) it) ∙ still)
    (subst (λ (those : Work). IsSpare those (z ++ piece) n) it ((holds.alike.unused piece n).0 spare)) in
    omega (arith, ap (λ (those : Work). those.ahead) it)

pub few_of_files : (most : ℕ) (state : ChunkerState) (filing : Filing) (elide : Bool)
    → course state.cutter ≡ in_files filing elide → MayGet (as_if ways.terms) (way.Chunks state) most
few_of_files most state filing elide on x piece after n holds going within same later spare =
    omega (
      arith,
      none_spare (work state) (x ++ piece) n (lawful (way.Chunks state) _ holds.holds) (open_after (work state) filing.verbose
          (ap (λ on. (work_on on state.cutter.chunks state.said).means.output) on) after (x ++ piece) same later) spare,
    )

pub few_unsaid : (most : ℕ) (state : ChunkerState) → state.said ≡ None
    → MayGet (as_if ways.terms) (way.Chunks state) most
few_unsaid most state said x piece after n holds going within same later spare = grind (arith, common_steps)
