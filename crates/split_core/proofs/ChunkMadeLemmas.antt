-- Which files of chunks there are once some bytes came in, and when the output of one chunk is complete.
use Rattle.std.proofs.Common.{rules}
use Rattle.std.proofs.lemmas.Grind.{common_steps}
use Rattle.std.proofs.{
  Common.{◌≡◌, ℕ, ◌+◌, ◌<◌, ◌≤◌, suc, Bool, true, false, List, [], ◌∷◌, ◌++◌, length, take, map, get_or, Option},
  Common.{Some, None, ◌⊎◌, inl, inr, refl, sym, ◌∙◌, ap, arith},
  Math.Seq.{get_or-append_seam, take-append_seam},
  lemmas.Bool.{cases_lt, false≢true},
  lemmas.List.{get_or-take, take-map, take_all, append-nil, append_assoc, append_cancel_left, length-append},
  lemmas.List.{length-map, map-append, take-take},
  lemmas.List.Elements.filter-append,
  lemmas.List.FromFn.length-map-range_with_len,
}
use Rattle.std.specs.List.{filter}
use Rattle.seg_core.specs.{Line.joined, declared.cut.Chunks.Chunks}
use Rattle.engine_core.{specs.{Agreed.file_bytes, Draft.files_from, Written.Written}, proofs.ShareLemmas.closed_files}
use Rattle.ports_core.specs.{
  Slot.Slot,
  declared.{slot.State.TheVariants.{Open, Closed}, verdict.Verdict.TheVariants.Changed},
}
use Rattle.split_core.specs.{
  Parts.{CutUp, unless_empty},
  Split.{Filing, Share, are_named, has_bytes, manner_of, share},
  Chunks.{chunks_of, decided, ended, has_ended, in_the_end, is_longer},
  ChunkAgreed.{AreMade, CanFollow, TwoDiffer},
  ChunkEnds.{EndAlike, TwoEndApart},
  ChunkWork.{ChunksPlan, chunk_work, chunks_settled, chunks_whole, chunks_work, files_by, kept},
  laws.{
    ChunkWorkLaws.{chunks_go_on, kept-append, chunk_lawful},
    ChunkLaws.{all_joined, ended_all, has_ended_before, rest_none},
  },
}
use Rattle.split_core.proofs.{
  ChunkAgreedLemmas.{Grows, files_on, few_decided, joined_files, none_grows, none_kept, said_grows, settled_files},
  ChunkAgreedLemmas.whole_files,
  ChunkLemmas.{bytes_filed, same_pieces},
}

-- two that go on with different bytes differ in the file after those that have ended
two_differ : (elide : Bool) {A : Type 0} {chunks : Chunks} {said : Option ℕ} {x r : List ℕ} (given : List ℕ → A)
    (pick : A → List ℕ) → Grows chunks said x r
    → ((y : List ℕ) → pick (given (x ++ y)) ≡ get_or (files_by elide (in_the_end chunks said (x ++ y)))
    (length (kept elide (decided chunks 1 said x).full)) []) → TwoDiffer (CanFollow said x) (λ y. given (x ++ y))
two_differ elide {r = r} given pick on at = let one = on 0 (omega arith) in let two = on 1 (omega arith) in (
  one.y,
  two.y,
  one.comes,
  two.comes,
  λ same. let here = at one.y in let there = at two.y in
      grind (arith, append_cancel_left, get_or-append_seam, files_on elide one, files_on elide two),
)

-- What all continuations have

-- more can come, or every end has what is decided
grows_or_ends : (chunks : Chunks) (said : Option ℕ) (x : List ℕ) → 0 < chunks.count
    → ((r : List ℕ) × Grows chunks said x r) ⊎ ((y : List ℕ) → CanFollow said x y
    → in_the_end chunks said (x ++ y) ≡ record { full = (decided chunks 1 said x).full; rest = [] })
grows_or_ends chunks None x some = inl (x, none_grows chunks x some)
grows_or_ends chunks (Some size) x some = elim (cases_lt (length x) size) [
  | inl short ↦ inl (_, said_grows chunks x some short)
  | inr full ↦ inr (λ y comes. grind (arith, common_steps, rest_none))
]

ended_first : (elide : Bool) (chunks : Chunks) (said : Option ℕ) (x y : List ℕ) → 0 < chunks.count
    → (tail : List (List ℕ))
    × (files_by elide (in_the_end chunks said (x ++ y)) ≡ kept elide (decided chunks 1 said x).full ++ tail)
ended_first elide chunks None x y some = (files_by elide (in_the_end chunks None (x ++ y)), rw (none_kept elide))
ended_first elide chunks (Some size) x y some = let on = chunks_go_on chunks size x y some in (
  kept elide on.more ++ unless_empty (chunks_of chunks size (x ++ y)).rest,
  grind (arith, kept-append, append_assoc, on.full),
)

-- The files

files_then : (filing : Filing) (count place : ℕ) (front : List (List ℕ)) (rest : List Share)
    → are_named filing.names count ≡ true → place + length front ≤ count
    → files_from (manner_of filing) place (map (share Closed) front ++ rest)
    ≡ files_from (manner_of filing) place (map (share Closed) front)
    ++ files_from (manner_of filing) (place + length front) rest
files_then filing count place [] rest named few = grind arith
files_then filing count place (one ∷ front) rest named few =
    grind (arith, files_then filing count (place + 1) front rest named)

-- the file that is open has a byte
begun_by : (filing : Filing) (place : ℕ) (rest : List ℕ)
    → let next = files_from (manner_of filing) place (map (share Open) (unless_empty rest)) in
    (next ≡ []) ⊎ ((file : Slot) × (next ≡ file ∷ []) × (file.state ≡ Open) × (0 < length file.written))
begun_by filing place [] = inl refl
begun_by filing place (byte ∷ rest) = grind arith

module _ (plan : ChunksPlan) (said : Option ℕ) (x : List ℕ) (some : 0 < plan.chunks.count)
    (named : are_named plan.filing.names plan.chunks.count ≡ true) where
  abbrev bytes_of : Slot → List ℕ
  bytes_of file = file.written

  abbrev cut : CutUp
  cut = decided plan.chunks 1 said x

  abbrev front : List (List ℕ)
  front = kept plan.elide cut.full

  abbrev place : ℕ
  place = 0 + length front

  abbrev closed : List Slot
  closed = files_from (manner_of plan.filing) 0 (map (share Closed) front)

  few : 0 + length front ≤ plan.chunks.count
  few = omega (arith, few_decided, length-append front (unless_empty cut.rest))

  long : length closed ≡ length front
  long = sym (length-map closed bytes_of)
      ∙ ap length (bytes_filed plan.filing plan.chunks.count front named (omega (arith, few)))

  whole_so : (y : List ℕ) (tail : List (List ℕ))
      → files_by plan.elide (in_the_end plan.chunks said (x ++ y)) ≡ front ++ tail
      → (chunks_whole plan said (x ++ y)).files
      ≡ closed ++ files_from (manner_of plan.filing) place (map (share Closed) tail)
  whole_so y tail is = rw (is, map-append (share Closed) front tail)
      (files_then plan.filing plan.chunks.count 0 front (map (share Closed) tail) named few)

  pub chunks_made : is_longer said x ≡ false
      → AreMade (CanFollow said x) (chunks_work plan said) x (chunks_settled plan said x).files
  chunks_made fits = record {
    closed = closed;
    next = files_from (manner_of plan.filing) place (map (share Open) (unless_empty cut.rest));
    are = files_then plan.filing plan.chunks.count 0 front (map (share Open) (unless_empty cut.rest)) named few;
    are_closed = closed_files (manner_of plan.filing) 0 front;
    stay = λ y comes. let (tail, is) = ended_first plan.elide plan.chunks said x y some in
        rw (whole_so y tail is) (take-append_seam closed _);
    -- each continuation makes these files alone, or two differ in the next file
    most = elim (grows_or_ends plan.chunks said x some) [
      | inl (r, on) ↦ inr (two_differ plan.elide (λ w. take (suc (length closed)) (chunks_whole plan said w).files)
          (λ files. get_or (map bytes_of files) (length front) []) on (λ y.
          let n = length front in
          let files = (chunks_whole plan said (x ++ y)).files in
          rw (long, ← take-map bytes_of (suc n) files, get_or-take (suc n) (map bytes_of files) n [] (omega arith))
          (ap (λ files. get_or files n []) (whole_files plan said (x ++ y) some named))))
      | inr ends ↦ inl (λ y comes. whole_so y [] (ap (files_by plan.elide) (ends y comes)) ∙ append-nil _)
    ];
    begun = begun_by plan.filing place cut.rest;
  }

-- Whether the output of one chunk is complete

pub chunk_complete : (place : ℕ) (chunks : Chunks) (said : Option ℕ) (x : List ℕ) → place < chunks.count
    → (chunk_work place chunks said).is_complete x ≡ true → (at : ℕ) → at ≤ place
    → EndAlike (chunk_work at chunks said) x
chunk_complete place chunks None x within has at before y z = absurd (false≢true has)
chunk_complete place chunks (Some size) x within has at before y z =
    let ended_too : has_ended chunks size x at ≡ true = grind (arith, common_steps) in
    let lawful = chunk_lawful at chunks (Some size) (omega arith) in
    (lawful.stays x y ended_too).whole_stays ∙ sym (lawful.stays x z ended_too).whole_stays

pub chunk_going : (place : ℕ) (chunks : Chunks) (said : Option ℕ) (x : List ℕ) → place < chunks.count
    → is_longer said x ≡ false → (chunk_work place chunks said).is_complete x ≡ false
    → (at : ℕ) × (at ≤ place) × TwoEndApart said (chunk_work at chunks said) x
chunk_going place chunks None x within fits going = (
  0,
  omega arith,
  two_differ false (chunk_work 0 chunks None).whole
      (λ (part : Written). part.out) (none_grows chunks x (omega arith)) (λ y. grind (arith, same_pieces)),
)
chunk_going place chunks (Some size) x within fits going =
    let few : ended chunks size x ≤ place = grind (arith, has_ended_before) in
    let short : length x < size = grind (arith, ended_all) in (
      length (chunks_of chunks size x).full,
      grind (arith, take_all, length-map-range_with_len),
      two_differ false (chunk_work (length (chunks_of chunks size x).full) chunks (Some size)).whole
          (λ (part : Written). part.out) (said_grows chunks x (omega arith) short) (λ y. grind (arith, same_pieces)),
    )

-- Empty files that are left out

left_out : (cut : CutUp) → files_by true cut ≡ filter has_bytes (files_by false cut)
left_out cut = grind (arith, filter-append)

module _ (plan : ChunksPlan) (said : Option ℕ) (x : List ℕ) (some : 0 < plan.chunks.count)
    (named : are_named plan.filing.names plan.chunks.count ≡ true) where
  abbrev plan_by : Bool → ChunksPlan
  plan_by elide = record plan { elide = elide }

  pub settled_left_out : file_bytes (chunks_settled (plan_by true) said x)
      ≡ filter has_bytes (file_bytes (chunks_settled (plan_by false) said x))
  settled_left_out = search (rules, settled_files, left_out)

  pub whole_left_out : file_bytes (chunks_whole (plan_by true) said x)
      ≡ filter has_bytes (file_bytes (chunks_whole (plan_by false) said x))
  whole_left_out = cc (
    whole_files (plan_by true) said x some named,
    left_out (in_the_end plan.chunks said x),
    whole_files (plan_by false) said x some named,
  )

-- An input that has another length than it showed

pub changed_told : (plan : ChunksPlan) (size : ℕ) (x : List ℕ) → (length x ≡ size → ⊥)
    → (chunks_work plan (Some size)).verdict x ≡ Some Changed
changed_told plan size x differs = grind arith

pub changed_alone : (place : ℕ) (chunks : Chunks) (size : ℕ) (x : List ℕ) → (length x ≡ size → ⊥)
    → (chunk_work place chunks (Some size)).is_complete x ≡ false
    → (chunk_work place chunks (Some size)).verdict x ≡ Some Changed
changed_alone place chunks size x differs going = grind arith

pub changed_more : (plan : ChunksPlan) (size : ℕ) (x : List ℕ)
    → (chunks_work plan (Some size)).whole x ≡ (chunks_work plan (Some size)).whole (take size x)
changed_more plan size x = grind (arith, take-take)

pub changed_all : (plan : ChunksPlan) (size : ℕ) (x : List ℕ) → 0 < plan.chunks.count
    → are_named plan.filing.names plan.chunks.count ≡ true
    → joined (file_bytes ((chunks_work plan (Some size)).whole x)) ≡ take size x
changed_all plan size x some named = search (rules, whole_files, joined_files, all_joined)

pub changed_same : (plan : ChunksPlan) (size : ℕ) (x : List ℕ) → 0 < plan.chunks.count
    → are_named plan.filing.names plan.chunks.count ≡ true
    → file_bytes ((chunks_work plan (Some size)).whole x) ≡ file_bytes ((chunks_work plan (Some size)).settled x)
changed_same plan size x some named = search (rules, whole_files, settled_files)
