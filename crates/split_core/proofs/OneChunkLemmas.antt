-- What waits if only one chunk is written.
use Rattle.std.proofs.{
  lemmas.{Grind.common_steps, Bool.{cases_lt, cond_both, le-ltb, lt-ltb, Decides.nat_tests}, List.append-nil},
  Common.{◌≡◌, ◌≢◌, ℕ, ◌+◌, ◌-◌, ◌*◌, ◌/◌, ◌%◌, ◌<◌, ◌≤◌, max, zero, suc, nat_lt, true, cond, List, []},
  Common.{◌∷◌, ◌++◌, length, take, drop, get_or, replicate, Option, Some, None, inl, inr, refl, sym, ◌∙◌, arith},
}
use Rattle.seg_core.specs.{Line.joined, declared.cut.Chunks.Chunks}
use Rattle.engine_core.{
  specs.Agreed.{ArePlaced, DifferOn, GoesBy, Spot, spot},
  proofs.AgreedLemmas.{AtMostOne, copies_come, some_spot, spots_differ, spots_few, stretch_placed, beginning_short},
}
use Rattle.split_core.{
  specs.{
    Chunks.{begun_before, before_chunk, chunk_start, in_the_end, is_as_said, pieces_in, size_by},
    ChunkAgreed.{CanFollow, one_chunk_spots},
    ChunkWork.chunk_work,
    laws.BegunLaws.{begun_all, begun_begins, begun_grows, begun_long, begun_monotone, begun_stays},
    laws.ChunkLaws.{piece_is, all_joined, begin_then_rest, decided_grows, start_grows},
  },
  proofs.{ChunkAgreedLemmas.far, ChunkLemmas.{join_first, said_size}},
}

-- Where a chunk begins

-- as a text grows by a byte, a chunk doesn't begin after where the next one began, if the text went past that
start_later : (n size place : ℕ) → place < n → chunk_start n size (place + 1) < size
    → chunk_start n (suc size) place ≤ chunk_start n size (place + 1)
start_later n size place within past =
    let e : suc size / n ≡ size / n + cond (nat_lt (suc (size % n)) n) 0 1 = grind arith in grind (arith, nat_tests)

-- Where the bytes go: to the chunk, if it begins at one place and ends at the other

abbrev spots_by : ℕ → ℕ → ℕ → List Spot
spots_by from to i = cond (nat_lt i from) [] (cond (nat_lt i to) (spot 0 (i - from) ∷ []) [])

spot_here : (from to i : ℕ) → from ≤ i → i < to → spots_by from to i ≡ spot 0 (i - from) ∷ []
spot_here from to i past less = grind arith

spots_same : (from to later last i : ℕ) → from ≤ later → to ≤ last → (from ≤ i → later ≡ from) → (to ≤ i → last ≡ to)
    → spots_by later last i ≡ spots_by from to i
spots_same from to later last i less few begins ends = grind arith

module _ (place : ℕ) (chunks : Chunks) (within : place < chunks.count) where
  -- how many bytes of a text stand before a chunk
  abbrev front : ℕ → List ℕ → ℕ → ℕ
  front size x at = length (before_chunk chunks size at x)

  begun_fewer : (x : List ℕ) (low high : ℕ) → low ≤ high
      → length (begun_before chunks.unit chunks.delim low x) ≤ length (begun_before chunks.unit chunks.delim high x)
  begun_fewer x low high less = beginning_short _ _ (begun_monotone chunks.unit chunks.delim x less)

  front_grows : (size : ℕ) (x : List ℕ) (at other : ℕ) → at ≤ other → front size x at ≤ front size x other
  front_grows size x at other less = begun_fewer x _ _ (start_grows chunks.count size at other less)

  front_first : (size : ℕ) (x : List ℕ) (at : ℕ) → at ≤ 0 → front size x at ≤ 0
  front_first size x at none = grind arith

  front_more : (size : ℕ) (x y : List ℕ) (at : ℕ) → front size x at ≤ front size (x ++ y) at
  front_more size x y at = grind (arith, begun_grows, beginning_short)

  -- what stands before a chunk stays, once a byte stands after it
  front_stays : (size : ℕ) (x y : List ℕ) (at i : ℕ) → i < length x → front size x at ≤ i
      → front size (x ++ y) at ≡ front size x at
  front_stays size x y at i less past = grind (arith, begun_all, begun_stays)

  abbrev spots_at : ℕ → List ℕ → ℕ → List Spot
  spots_at size x i = spots_by (front size x place) (front size x (place + 1)) i

  spots_are : (said : Option ℕ) (w : List ℕ) (i : ℕ) → is_as_said said w ≡ true
      → one_chunk_spots place chunks said w i ≡ spots_at (size_by said w) w i
  spots_are said w i is = grind (arith, common_steps, piece_is, join_first, said_size)

  -- what follows x changes nothing, if the size is known
  spots_then : (said : Option ℕ) (x y : List ℕ) {size i : ℕ} → i < length x → is_as_said said (x ++ y) ≡ true
      → size_by said (x ++ y) ≡ size → one_chunk_spots place chunks said (x ++ y) i ≡ spots_at size x i
  spots_then said x y less is long = grind (arith, spots_are, front_more, front_stays)

  none_there : (x y : List ℕ) (i : ℕ) → i < front (length x) x (max place 1)
      → one_chunk_spots place chunks None (x ++ y) i ≡ spots_at (length x) x i
  none_there x y i less = spots_are None (x ++ y) i refl
      ∙ spots_same _ _ _ _ i (grows place (omega arith)) (grows (place + 1) (omega arith))
      (λ past. grind (arith, front_first)) (λ past. grind (arith, front_grows)) where
        grows : (first : ℕ) → first ≤ chunks.count → front (length x) x first ≤ front (length (x ++ y)) (x ++ y) first
        grows first few = beginning_short _ _ (decided_grows chunks first x y (omega arith) few)

  -- If the input showed no size, a byte that waits goes to the chunk in one continuation, and not in another

  abbrev more : List ℕ → ℕ
  more x = suc (length x) * chunks.count

  far_front : (x : List ℕ) (later : ℕ) → 0 < later → front (length x + more x) x later ≡ length x
  far_front x later some = grind (arith, common_steps, far, start_grows)

  front_later : (size next : ℕ) (x : List ℕ) (i : ℕ) → next ≡ suc size → length x ≤ size → i < length x
      → front size x (place + 1) ≤ i → front next x place ≤ i
  front_later size next x i is few less past = rw is (grind (arith, begun_long, begun_fewer, start_later))

  climb : (x : List ℕ) (i : ℕ) → i < length x → front (length x) x place ≤ i → (k : ℕ)
      → i < front (length x + k) x (place + 1) → (m : ℕ) × (front (length x + m) x place ≤ i)
      × (i < front (length x + m) x (place + 1))
  climb x i less from zero to = (0, grind arith, to)
  climb x i less from (suc k) to = elim (cases_lt i (front (length x + k) x (place + 1))) [
    | inl before ↦ climb x i less from k before
    | inr past ↦ (suc k, front_later (length x + k) _ x i (omega arith) (omega arith) less past, to)
  ]

  goes_past : (x : List ℕ) (i : ℕ) → front (length x) x (max place 1) ≤ i → i < length x
      → (k : ℕ) × (spots_at (length x + k) x i ≡ [])
  goes_past x i past less = elim (cases_lt 0 place) [
    | inl later ↦ (more x, grind (arith, far_front))
    | inr first ↦ (0, grind (arith, nat_tests))
  ]

  none_differ : (x : List ℕ) (i : ℕ) → front (length x) x (max place 1) ≤ i → i < length x
      → (y : List ℕ) × (z : List ℕ) × CanFollow None x y × CanFollow None x z
      × (one_chunk_spots place chunks None (x ++ y) i ≢ one_chunk_spots place chunks None (x ++ z) i)
  none_differ x i past less = let (k, from, to) = climb x i less (grind (arith, front_grows))
      (more x) (grind (arith, far_front)) in
      let (m, none) = goes_past x i past less in (
        replicate k 0,
        replicate m 0,
        (copies_come k 0 (omega arith), refl),
        (copies_come m 0 (omega arith), refl),
        λ same. some_spot _ _ (sym (after k ∙ spot_here _ _ i from to) ∙ same ∙ after m ∙ none),
      ) where
        after : (k : ℕ) → one_chunk_spots place chunks None (x ++ replicate k 0) i ≡ spots_at (length x + k) x i
        after k = spots_then None x (replicate k 0) less refl
            (grind (arith, common_steps))

  few : (said : Option ℕ) (x : List ℕ) (i : ℕ) → AtMostOne (one_chunk_spots place chunks said x i)
  few said x i = grind (arith, common_steps, cond_both, AtMostOne, spots_few)

  pub chunk_waits : (said : Option ℕ) (x : List ℕ)
      → DifferOn (CanFollow said x) (GoesBy (one_chunk_spots place chunks said)) x
      ((chunk_work place chunks said).waiting x)
  chunk_waits (Some size) x = spots_differ (one_chunk_spots place chunks (Some size)) x (few (Some size))
      (sym (append-nil x)) (λ i past less. absurd (omega arith))
      (λ i less y z comes also. spots_then (Some size) x y less comes.1 refl
      ∙ sym (spots_then (Some size) x z less also.1 refl))
  chunk_waits None x = spots_differ (one_chunk_spots place chunks None) (before_chunk chunks (length x) (max place 1) x)
      (few None) (sym (begin_then_rest _ x (begun_begins _ _ _ x))) (none_differ x)
      (λ i less y z comes also. none_there x y i less ∙ sym (none_there x z i less))

-- Spots are right

three_pieces : (pieces : List (List ℕ)) (place : ℕ) (rest : List ℕ) → joined pieces ++ rest
    ≡ joined (take place pieces) ++ (get_or pieces place [] ++ (joined (drop (suc place) pieces) ++ rest))
three_pieces [] place rest = grind (arith, common_steps)
three_pieces (piece ∷ pieces) place rest = grind (arith, common_steps, three_pieces pieces (place - 1) rest)

pub chunk_placed : (place : ℕ) (chunks : Chunks) (said : Option ℕ) → place < chunks.count
    → ArePlaced (chunk_work place chunks said) (one_chunk_spots place chunks said)
chunk_placed place chunks said within = stretch_placed (chunk_work place chunks said) 0 (record {
  before = λ x. joined (take place (pieces x));
  rest = λ x. get_or (pieces x) place [] ++ after x;
  parts = λ x. grind (arith, common_steps, all_joined, three_pieces (pieces x) place (drop (size_by said x) x));
  front = λ x. (after x, refl, tt);
  are = λ x. refl;
  nowhere = λ x i less. rw (lt-ltb _ _ less);
  there = λ x i past. rw (le-ltb _ _ past);
}) where
  pieces : List ℕ → List (List ℕ)
  pieces x = pieces_in (in_the_end chunks said x)

  after : List ℕ → List ℕ
  after x = joined (drop (suc place) (pieces x)) ++ drop (size_by said x) x
