-- Laws that traits cite: those of the work on chunks, and on dealt lines of which those for one file are written.
use Rattle.std.{
  proofs.{
    lemmas.Grind.common_steps,
    lemmas.List.{append_assoc, map-append, Elements.filter-append, FromFn.length-map-range_with_len},
    Common.{◌≡◌, ℕ, ◌+◌, ◌-◌, ◌<◌, ◌≤◌, max, zero, suc, eqb, Bool, true, false, List, [], ◌∷◌, ◌++◌, length},
    Common.{take, map, get_or, Option, Some, None, refl, arith},
  },
  specs.List.range_with_len,
}
use Rattle.seg_core.specs.declared.{cut.Chunks.Chunks, unit.Unit.TheVariants.Bytes}
use Rattle.engine_core.{
  specs.{Draft.shares_of, Written.IsBeginning, Work.{IsComplete, IsLawful}, inner.Shares.SharesBegin},
  proofs.{WrittenLemmas.{begins_itself, nothing_begins, out_begins}, ShareLemmas.shares_after},
}
use Rattle.ports_core.{specs.Slot.MayBecome, specs.declared.slot.State.{State, TheVariants.{Open, Closed}}}
use Rattle.split_core.specs.{
  Chunks.{chunk_at, chunk_start, chunks_of, chunks_within, decided, ended, has_ended, in_the_end, pieces_in},
  ChunkWork.{ChunksPlan, chunk_work, chunks_work, draft_by, is_written, kept, piece_at, turn_work},
  Parts.{CutUp, unless_empty},
  Split.{share},
  inner.Chunks.{BeginsFirst, GoesOn},
  laws.{
    BegunLaws.begun_grows,
    ChunkLaws.{before_next, cut_all, decided_grows, ended_after, ended_is, ended_grows, full_stays, map_parts},
    ChunkLaws.{rest_on, passed_grows, rest_none, start_first},
    DealLaws.dealt_append,
    ShareLaws.part_begins,
  },
}

-- A text that is cut up goes on

-- what begins a chunk begins the first of more chunks, or the last
begins_on : (f : ℕ → List ℕ) (a n : ℕ) (low : List ℕ) → IsBeginning low (f a)
    → BeginsFirst low (map f (range_with_len a n)) (f (a + n))
begins_on f a zero low begins = let e : a + 0 ≡ a = omega arith in rw e begins
begins_on f a (suc n) low begins = begins

module _ (chunks : Chunks) (size : ℕ) where
  goes_within : (x y : List ℕ) → 0 < chunks.count → length (x ++ y) ≤ size
      → GoesOn (chunks_within chunks size x) (chunks_within chunks size (x ++ y))
  goes_within x y some within =
      let place = ended chunks size x in let more = ended chunks size (x ++ y) - place in
      let f = chunk_at chunks size (x ++ y) in let all : place + more ≡ ended chunks size (x ++ y) = omega
      (arith, ended_grows) in
      let (rest, on) = begun_grows chunks.unit chunks.delim (chunk_start chunks.count size (place + 1)) x y in record {
        more = map f (range_with_len place more);
        full = grind (arith, map_parts f 0 place more, full_stays, ended_is);
        rest = rw all at (begins_on f place more (chunks_within chunks size x).rest
            (rest, rest_on chunks size x y rest some within (grind (arith, common_steps, before_next, ended_is))));
      }

  -- the pieces of a longer text go on from those of the text
  pub chunks_go_on : (x y : List ℕ) → 0 < chunks.count
      → GoesOn (chunks_of chunks size x) (chunks_of chunks size (x ++ y))
  chunks_go_on x y some = let (rest, is) = begun_grows Bytes 0 size x y in
      rw is (goes_within (take size x) rest some (grind (arith, common_steps, is)))

  -- a piece that has ended stays
  piece_stays : (place : ℕ) (x y : List ℕ) → place < chunks.count → has_ended chunks size x place ≡ true
      → piece_at place (chunks_of chunks size (x ++ y)) ≡ piece_at place (chunks_of chunks size x)
  piece_stays place x y within has = let on = chunks_go_on x y (omega arith) in
      grind (arith, common_steps, ended_after, length-map-range_with_len)

decided_goes_on : (chunks : Chunks) (first : ℕ) (said : Option ℕ) (x y : List ℕ) → 0 < chunks.count
    → first ≤ chunks.count → GoesOn (decided chunks first said x) (decided chunks first said (x ++ y))
decided_goes_on chunks first None x y some within =
    record { more = []; full = refl; rest = decided_grows _ _ x y some within }
decided_goes_on chunks first (Some size) x y some within = chunks_go_on _ _ x y some

begins_pieces : (f : ℕ → List ℕ) (n : ℕ) (low last : List ℕ) → 0 < n → IsBeginning low (f 0)
    → BeginsFirst low (map f (range_with_len 0 n)) last
begins_pieces f zero low last some begins = absurd (omega arith)
begins_pieces f (suc n) low last some begins = begins

-- the pieces at the end go on from those that are decided
decided_ends : (chunks : Chunks) (said : Option ℕ) (x : List ℕ) → 0 < chunks.count
    → GoesOn (decided chunks 1 said x) (in_the_end chunks said x)
decided_ends chunks (Some size) x some = grind (arith, common_steps)
decided_ends chunks None x some = grind (arith, common_steps, start_first, cut_all, begins_pieces)

-- What files get of a text that is cut up

pub kept-append : (elide : Bool) (front more : List (List ℕ))
    → kept elide (front ++ more) ≡ kept elide front ++ kept elide more
kept-append elide front more = grind (arith, filter-append)

pub length-kept : (elide : Bool) (pieces : List (List ℕ)) → length (kept elide pieces) ≤ length pieces
length-kept false pieces = omega arith
length-kept true [] = omega arith
length-kept true (piece ∷ pieces) = grind (arith, length-kept true pieces)

pub shares_on : (elide : Bool) (state : State) {low high : CutUp} → MayBecome Open state → GoesOn low high
    → SharesBegin (shares_of (draft_by elide low))
    (map (share Closed) (kept elide high.full) ++ map (share state) (unless_empty high.rest))
shares_on elide state may on = grind (arith, common_steps, shares_after)

-- a text that is longer than its size differs from it
pub longer_differs : (size : ℕ) (x : List ℕ) → size < length x → eqb (length x) size ≡ false
longer_differs size x longer = grind arith

chunks_stay : (plan : ChunksPlan) (said : Option ℕ) (x y : List ℕ) → 0 < plan.chunks.count
    → (chunks_work plan said).is_complete x ≡ true → IsComplete (chunks_work plan said) x y
chunks_stay plan None x y some never = absurd (cc)
chunks_stay plan (Some size) x y some is = grind (arith, common_steps, rest_none)

pub chunks_lawful : (plan : ChunksPlan) (said : Option ℕ) → 0 < plan.chunks.count → IsLawful (chunks_work plan said)
chunks_lawful plan said some = record {
  grows = λ x y. part_begins plan.filing _ _ (shares_on plan.elide Open (refl, refl)
      (decided_goes_on plan.chunks 1 said x y some (omega arith)));
  ends = λ x. part_begins plan.filing _ _
      (rw map-append (shares_on plan.elide Closed (refl, refl) (decided_ends plan.chunks said x some)));
  stays = λ x y. chunks_stay plan said x y some;
}

-- One chunk alone

piece_step : (front more : List (List ℕ)) (low high : List ℕ) (place : ℕ) → BeginsFirst low more high
    → IsBeginning (get_or (front ++ low ∷ []) place []) (get_or (front ++ (more ++ high ∷ [])) place [])
piece_step [] [] low high zero begins = begins
piece_step [] (piece ∷ more) low high zero begins = begins
piece_step [] more low high (suc place) begins = nothing_begins _
piece_step (first ∷ front) more low high zero begins = begins_itself _
piece_step (first ∷ front) more low high (suc place) begins = piece_step front more low high place begins

pub piece_on : (place : ℕ) {low high : CutUp} → GoesOn low high
    → IsBeginning (get_or (pieces_in low) place []) (get_or (pieces_in high) place [])
piece_on place {low} {high} on =
    rw (on.full, append_assoc) (piece_step low.full on.more low.rest high.rest place on.rest)

piece_ends : (place : ℕ) (chunks : Chunks) (said : Option ℕ) (x : List ℕ) → place < chunks.count
    → IsBeginning (get_or (pieces_in (decided chunks (max place 1) said x)) place [])
    (get_or (pieces_in (in_the_end chunks said x)) place [])
piece_ends place chunks (Some size) x within = begins_itself _
piece_ends zero chunks None x within = piece_on 0 (decided_ends chunks None x within)
piece_ends (suc place) chunks None x within = nothing_begins _

chunk_stays : (place : ℕ) (chunks : Chunks) (said : Option ℕ) (x y : List ℕ) → place < chunks.count
    → is_written place chunks said x ≡ true → IsComplete (chunk_work place chunks said) x y
chunk_stays place chunks None x y within never = absurd (cc)
chunk_stays place chunks (Some size) x y within has = grind (arith, passed_grows, piece_stays)

pub chunk_lawful : (place : ℕ) (chunks : Chunks) (said : Option ℕ) → place < chunks.count
    → IsLawful (chunk_work place chunks said)
chunk_lawful place chunks said within = record {
  grows = λ x y. out_begins _ _ (piece_on place (decided_goes_on chunks (max place 1) said x y (omega arith)
      (omega arith)));
  ends = λ x. out_begins _ _ (piece_ends place chunks said x within);
  stays = λ x y. chunk_stays place chunks said x y within;
}

-- Lines of one file alone

pub turn_lawful : (place count delim : ℕ) → IsLawful (turn_work place count delim)
turn_lawful place count delim = record {
  grows = λ x y. out_begins _ _ (_, dealt_append _ _ _ 0 x y);
  ends = λ x. out_begins _ _ (begins_itself _);
  stays = λ x y never. absurd (cc);
}
