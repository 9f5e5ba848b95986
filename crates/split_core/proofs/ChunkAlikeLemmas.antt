-- Lemmas on what stands before one chunk alone: which bytes these are is no matter.
use Rattle.std.proofs.{
  Common.{◌≡◌, ℕ, ◌+◌, ◌-◌, ◌<◌, ◌≤◌, max, nat_le, false, List, [], ◌++◌, length, take, get_or, Some, refl, sym},
  Common.{◌∙◌, ap, arith},
  lemmas.{Grind.common_steps, Bool.cases_lt},
  Math.Seq.{drop-append-add, take-append-add},
}
use Rattle.seg_core.specs.declared.{cut.Chunks.Chunks, unit.Unit.{Unit, TheVariants.{Bytes, Lines}}}
use Rattle.engine_core.specs.{Written.only_out, Work.IsLawful}
use Rattle.split_core.{
  specs.{
    Alike.AreAlike,
    Chunks.{before_chunk, begun_before, chunk_start, chunks_of, has_ended, open_from, pieces_in},
    ChunkWork.chunk_work,
    laws.{BegunLaws.{begun_on, open_append, open_within}, ChunkLaws.piece_is, ChunkWorkLaws.chunk_lawful},
  },
  proofs.AlikeLemmas.spare_so,
}

-- Of two texts that go on alike, after as many bytes, the open lines begin both before a later place, or neither does.
open_so : (unit : Unit) (delim at : ℕ) (x z y : List ℕ) → length x ≡ length z → length x < at
    → nat_le at (open_from unit delim (x ++ y)) ≡ nat_le at (open_from unit delim (z ++ y))
open_so Bytes delim at x z y long before = grind (arith, common_steps)
open_so Lines delim at x z y long before =
    grind (arith, open_append, open_within Lines delim x, open_within Lines delim z)

module _ (place : ℕ) (chunks : Chunks) (size : ℕ) (can : place < chunks.count) where
  abbrev start : ℕ → ℕ
  start = chunk_start chunks.count size

  taken : (x y : List ℕ) → length x < start place → take size (x ++ y) ≡ x ++ take (size - length x) y
  taken x y before = ap (λ n. take n (x ++ y)) (grind arith) ∙ take-append-add x y (size - length x)

  -- what follows has this of the chunk
  begun_so : (x y : List ℕ) (at : ℕ) → length x < start place → start place ≤ start at
      → before_chunk chunks size at (x ++ y)
      ≡ x ++ begun_before chunks.unit chunks.delim (max (start at - length x) 1) y
  begun_so x y at before past = grind (arith, begun_on, open_within)

  -- as long as the chunk hasn't begun, more can come
  pub goes_on : (x : List ℕ) → length x < start (place + 1) → has_ended chunks size x place ≡ false
  goes_on x before = grind (arith, open_within)

  pub alike_before : (x z : List ℕ) → length x ≡ length z → length x < start place
      → AreAlike (chunk_work place chunks (Some size)) x z
  alike_before x z long before = record {
    long = long;
    settled = λ y. ap only_out (same y);
    whole = λ y. ap only_out (same y);
    waiting = λ y. refl;
    complete = ends;
    verdict = λ y. rw (ends y, as_long y);
    unused = λ y n. (
      spare_so _ lawful z x (goes_on x (omega arith)) (λ y. sym (ends y)) y n,
      spare_so _ lawful x z (goes_on z (omega arith)) ends y n,
    );
  } where
    lawful : IsLawful (chunk_work place chunks (Some size))
    lawful = chunk_lawful place chunks (Some size) can

    as_long : (y : List ℕ) → length (x ++ y) ≡ length (z ++ y)
    as_long y = grind (arith, common_steps)

    ends : (y : List ℕ) → has_ended chunks size (x ++ y) place ≡ has_ended chunks size (z ++ y) place
    ends y = grind (arith, common_steps, cases_lt, open_so)

    same : (y : List ℕ) → get_or (pieces_in (chunks_of chunks size (x ++ y))) place []
        ≡ get_or (pieces_in (chunks_of chunks size (z ++ y))) place []
    same y = grind (arith, common_steps, piece_is, taken, begun_so, drop-append-add)
