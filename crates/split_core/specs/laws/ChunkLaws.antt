-- Laws that traits cite: laws of chunks: where they begin, and what of a text that goes on is in them.
use Rattle.std.{
  proofs.{
    lemmas.{
      Grind.{common_steps, flat_map-append},
      Bool.{cases_lt, le-leb, Decides.nat_tests},
      List.{append-nil, drop_all, length-take, length-append},
      List.FromFn.{get_or-map-range_with_len, map-range_with_len_more, length-map-range_with_len},
      Nat.le-div,
    },
    Common.{get_or, ◌≡◌, ℕ, ◌+◌, ◌-◌, ◌/◌, ◌<◌, ◌≤◌, max, zero, suc, true, List, [], ◌++◌, length, take, drop, map},
    Common.{inl, inr, refl, sym, ap, subst, arith},
    Math.{Nat.{div-mul-le_self, mul-le-mul_left}, Seq.drop-append_seam},
  },
  specs.List.{filter, flat_map, range_with_len},
}
use Rattle.seg_core.specs.{Line.joined, declared.cut.Chunks.Chunks}
use Rattle.engine_core.{specs.Written.IsBeginning, proofs.WrittenLemmas.begins_trans}
use Rattle.split_core.specs.{
  Chunks.{chunks_within, chunk_start, begun_before, before_chunk, chunk_at, open_from, passed, has_ended, ended},
  Chunks.{chunks_of, pieces_in},
  inner.Chunks.{HaveEnded, cut_before},
  laws.BegunLaws.{begun_again, begun_all, begun_grows, begun_later, begun_long, begun_monotone, begun_on},
  laws.BegunLaws.{begun_stays, begun_within, open_grows, open_within},
}

-- Where chunks begin

pub start_grows : (n size place other : ℕ) → place ≤ other → chunk_start n size place ≤ chunk_start n size other
start_grows n size place other within = grind arith

pub start_first : (n size : ℕ) → chunk_start n size 0 ≡ 0
start_first n size = omega arith

pub start_within : (n size place : ℕ) → 0 < n → place ≤ n → chunk_start n size place ≤ size
start_within n size place some within = grind arith

pub start_past : (n size place : ℕ) → 0 < n → n ≤ place → size ≤ chunk_start n size place
start_past n size place some past = grind arith

pub start_by_size : (n size more place : ℕ) → 0 < n → place ≤ n → size ≤ more
    → chunk_start n size place ≤ chunk_start n more place
start_by_size n size more place some within less = elim (cases_lt (size / n) (more / n)) [
  | inl longer ↦ omega (arith, mul-le-mul_left place longer)
  | inr fewer ↦ (
      let same : size / n ≡ more / n = omega (arith, le-div (size / n) more n some (omega (arith, div-mul-le_self))) in
      grind arith)
]

pub begin_then_rest : (low high : List ℕ) → IsBeginning low high → low ++ drop (length low) high ≡ high
begin_then_rest low high (rest, is) = grind (arith, drop-append_seam)

pub map_same : {X : Type 0} (f g : ℕ → X) (a n : ℕ) → ((i : ℕ) → a ≤ i → i < a + n → f i ≡ g i)
    → map f (range_with_len a n) ≡ map g (range_with_len a n)
map_same f g a zero same = refl
map_same f g a (suc n) same = grind (arith, map_same f g (a + 1) n (λ i from to. same i (omega arith) (omega arith)))

pub map_parts : (f : ℕ → List ℕ) (a p k : ℕ) → map f (range_with_len a (p + k))
    ≡ map f (range_with_len a p) ++ map f (range_with_len (a + p) k)
map_parts f a zero k = grind (arith, common_steps)
map_parts f a (suc p) k = let e : suc p + k ≡ suc (p + k) = omega arith in
    let at : a + suc p ≡ a + 1 + p = omega arith in rw (e, at, map_parts f (a + 1) p k) refl

-- Where a text stands

module _ (chunks : Chunks) (size : ℕ) where
  pub passed_full : (x : List ℕ) → size ≤ length x → passed chunks size x ≡ size
  passed_full x full = grind (arith, nat_tests)

  pub passed_open : (x : List ℕ) → length x < size → passed chunks size x ≡ open_from chunks.unit chunks.delim x
  passed_open x short = grind (arith, nat_tests)

  pub passed_grows : (x y : List ℕ) → passed chunks size x ≤ passed chunks size (x ++ y)
  passed_grows x y = grind (arith, common_steps, open_grows, open_within)

  -- Which chunks have ended

  -- of n chunks from the chunk at place a on, the first p have ended
  abbrev AreFirst : List ℕ → ℕ → ℕ → ℕ → Type 0
  AreFirst x a n p = (p ≤ n) × (0 < p → chunk_start chunks.count size (a + p) ≤ passed chunks size x)
      × (p < n → passed chunks size x < chunk_start chunks.count size (a + p + 1))

  ended_from : (x : List ℕ) (a n : ℕ) → AreFirst x a n (length (filter (has_ended chunks size x) (range_with_len a n)))
  ended_from x a zero = grind arith
  ended_from x a (suc n) = grind (arith, ended_from x (a + 1) n)

  -- the chunks that have ended are the first, as many as `ended` says
  pub ended_is : (x : List ℕ) → HaveEnded chunks size x (ended chunks size x)
  ended_is x = grind (arith, ended_from x 0 chunks.count)

  -- just the chunks before this place have ended
  pub has_ended_before : (x : List ℕ) (place : ℕ) → place < ended chunks size x → has_ended chunks size x place ≡ true
  has_ended_before x place before = grind (arith, common_steps, le-leb, ended_is)

  pub ended_after : (x : List ℕ) (place : ℕ) → place < chunks.count
      → has_ended chunks size x place ≡ true → place < ended chunks size x
  ended_after x place within has = grind (arith, cases_lt, ended_is, start_grows)

  -- at least as many chunks of a longer text have ended
  pub ended_grows : (x y : List ℕ) → ended chunks size x ≤ ended chunks size (x ++ y)
  ended_grows x y = grind (arith, ended_is, passed_grows, start_grows)

pub ended_only : {chunks : Chunks} {size : ℕ} {x : List ℕ} {p : ℕ} → HaveEnded chunks size x p
    → ended chunks size x ≡ p
ended_only is = grind (arith, ended_is)

-- once a text has its size, all chunks have ended
pub ended_all : (chunks : Chunks) {size : ℕ} (x : List ℕ) → 0 < chunks.count → size ≤ length x
    → ended chunks size x ≡ chunks.count
ended_all chunks x some full = grind (arith, common_steps, ended_is)

-- What goes with a chunk

module _ (chunks : Chunks) (size : ℕ) where
  before_grows : (x : List ℕ) (place other : ℕ) → place ≤ other
      → IsBeginning (before_chunk chunks size place x) (before_chunk chunks size other x)
  before_grows x place other within = begun_monotone chunks.unit chunks.delim x (grind arith)

  -- what stands before a chunk stays, once the text reaches the chunk
  pub before_stays : (place : ℕ) (x y : List ℕ) → length (x ++ y) ≤ size
      → chunk_start chunks.count size place ≤ passed chunks size x
      → before_chunk chunks size place (x ++ y) ≡ before_chunk chunks size place x
  before_stays place x y within reached = grind (arith, common_steps, begun_stays, passed_open)

  -- all that came in stands before the end of the chunk that was begun
  pub before_next : (x : List ℕ) (place : ℕ) → 0 < chunks.count → length x ≤ size
      → HaveEnded chunks size x place → before_chunk chunks size (place + 1) x ≡ x
  before_next x place some within is = grind (arith, begun_all, begun_long)

  pub chunks_are : (x : List ℕ) {place : ℕ} → 0 < chunks.count → length x ≤ size
      → HaveEnded chunks size x place → chunks_of chunks size x ≡ cut_before chunks size x place
  chunks_are x some within is = grind (arith, common_steps, ended_only, before_next)

  pub full_stays : (place : ℕ) (x y : List ℕ) → length (x ++ y) ≤ size
      → chunk_start chunks.count size place ≤ passed chunks size x
      → map (chunk_at chunks size (x ++ y)) (range_with_len 0 place)
      ≡ map (chunk_at chunks size x) (range_with_len 0 place)
  full_stays place x y within reached = map_same _ _ 0 place (λ i from to. grind (arith, common_steps, before_stays))

  -- what stands before a place stands before a later place
  pub before_later : (x : List ℕ) (place other : ℕ) → place ≤ other
      → before_chunk chunks size place x ≡ x → before_chunk chunks size other x ≡ x
  before_later x place other within all = begun_later chunks.unit chunks.delim x (start_grows _ _ _ _ within) all

  -- a chunk has nothing if all that came in stands before it
  pub chunk_none : (x : List ℕ) (place : ℕ) → before_chunk chunks size place x ≡ x → chunk_at chunks size x place ≡ []
  chunk_none x place all = grind (arith, common_steps, before_later, drop_all)

  -- if a text goes on with the chunk that was begun, so does its rest
  pub rest_on : (x y z : List ℕ) → 0 < chunks.count → length (x ++ y) ≤ size
      → before_chunk chunks size (ended chunks size x + 1) (x ++ y) ≡ x ++ z
      → chunk_at chunks size (x ++ y) (ended chunks size x) ≡ (chunks_within chunks size x).rest ++ z
  rest_on x y z some within all = grind (arith, common_steps, before_stays, before_next, ended_is, begun_within)

  -- All chunks together

  pub map_chunks : {A : Type 0} (g : List ℕ → List A) (x : List ℕ) → g [] ≡ []
      → ((at : ℕ) → g (before_chunk chunks size at x) ++ g (chunk_at chunks size x at)
      ≡ g (before_chunk chunks size (at + 1) x))
      → (place : ℕ) → flat_map g (map (chunk_at chunks size x) (range_with_len 0 place))
      ≡ g (before_chunk chunks size place x)
  map_chunks g x none next zero = grind (arith, common_steps)
  map_chunks g x none next (suc place) = subst
      (λ n. flat_map g (map (chunk_at chunks size x) (range_with_len 0 n)) ≡ g (before_chunk chunks size n x))
      {x = place + 1} (omega arith)
      (rw (map-range_with_len_more _ 0 place place (omega arith), flat_map-append, map_chunks g x none next place)
      (rw append-nil (next place)))

  pub joined_chunks : (x : List ℕ) (place : ℕ)
      → joined (map (chunk_at chunks size x) (range_with_len 0 place)) ≡ before_chunk chunks size place x
  joined_chunks x = map_chunks (λ z. z) x refl
      (λ at. begin_then_rest _ _ (before_grows x at (at + 1) (omega arith)))

  pieces_are : (x : List ℕ) → pieces_in (chunks_within chunks size x)
      ≡ map (chunk_at chunks size x) (range_with_len 0 (ended chunks size x + 1))
  pieces_are x = sym (map-range_with_len_more (chunk_at chunks size x) 0 _ _ (omega arith))

  -- the piece at a place is what the text has of the chunk there
  pub piece_is : (x : List ℕ) (place : ℕ) → 0 < chunks.count → length x ≤ size
      → get_or (pieces_in (chunks_within chunks size x)) place [] ≡ chunk_at chunks size x place
  piece_is x place some fits = let none : ended chunks size x + 1 ≤ place → chunk_at chunks size x place ≡ [] =
      λ past. chunk_none x place (before_later x _ place past (before_next x _ some fits (ended_is _ _ x))) in
      grind (arith, common_steps, cases_lt, pieces_are, get_or-map-range_with_len, length-map-range_with_len)

  -- all pieces are the text, up to its size
  pub all_joined : (x : List ℕ) → 0 < chunks.count → joined (pieces_in (chunks_of chunks size x)) ≡ take size x
  all_joined x some = grind (arith, common_steps, pieces_are, joined_chunks, before_next, length-take, ended_is)

  -- Once a text has its size

  pub cut_all : (x : List ℕ) → 0 < chunks.count → size ≤ length x → chunks_of chunks size x
      ≡ record { full = map (chunk_at chunks size (take size x)) (range_with_len 0 chunks.count); rest = [] }
  cut_all x some full = grind (arith, common_steps, begun_long, ended_all, chunk_none)

  pub rest_none : (x : List ℕ) → 0 < chunks.count → size ≤ length x → (chunks_of chunks size x).rest ≡ []
  rest_none x some full = ap (λ cut. cut.rest) (cut_all x some full)

  -- How far the chunk that was begun goes in what follows

  -- the chunk that was begun gets what begins before its end, or the rest of the open line
  pub piece_all : (x text : List ℕ) {place : ℕ} → length x < size
      → HaveEnded chunks size x place → place < chunks.count
      → let skip = max (chunk_start chunks.count size (place + 1) - length x) 1 in
      let y = begun_before chunks.unit chunks.delim skip text in before_chunk chunks size (place + 1) (x ++ y) ≡ x ++ y
  piece_all x text short is less = grind (arith, begun_on, begun_again)

-- If the size isn't known

pub decided_grows : (chunks : Chunks) (first : ℕ) (x y : List ℕ) → 0 < chunks.count → first ≤ chunks.count
    → IsBeginning (before_chunk chunks (length x) first x) (before_chunk chunks (length (x ++ y)) first (x ++ y))
decided_grows chunks first x y some within = begins_trans _ _ _
    (begun_monotone _ _ x (start_by_size _ _ _ _ some within (omega (arith, length-append x y))))
    (begun_grows _ _ _ x y)
