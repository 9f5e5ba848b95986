-- Lemmas on what is passed over before the one chunk that is written.
use Rattle.std.proofs.lemmas.Grind.{common_steps}
use Rattle.std.proofs.{
  Common.{◌≡◌, ℕ, ◌+◌, ◌-◌, ◌<◌, ◌≤◌, nat_lt, zero, suc, Bool, true, false, List, [], length, replicate, Some, inl},
  Common.{inr, refl, sym, ◌∙◌, ap, subst, arith},
  lemmas.{
    Bool.{lt-leb, lt-ltb, ltb-true, ne_eqb},
    List.{append-nil, length-append, length-replicate, take_all, FromFn.length-map-range_with_len},
  },
}
use Rattle.engine_core.specs.{Engine.TookIn, Written.{only_out, nothing}, Work.Work}
use Rattle.seg_core.specs.{Line.delimiters, declared.{cut.Chunks.Chunks, unit.Unit.TheVariants.{Bytes, Lines}}}
use Rattle.split_core.{
  specs.Alike.{AreAlike, as_if},
  specs.Chunks.{chunk_start, chunks_within, ended, is_within, open_from, passed},
  specs.ChunkWork.{chunk_work, piece_at},
  specs.ChunkerState.{ChunkerState, HasCut, Holds, HoldsBy, IsSaid, course, course_of, in_output, to_output, work},
  specs.ChunkerState.work_on,
  specs.inner.Chunker.{TakesFront, passed_to},
  specs.laws.{BegunLaws.{begun_long, open_from_none}, ChunkLaws.{ended_only, passed_open, start_first}},
  proofs.{
    AlikeLemmas.{same_alike, took_as},
    ChunkAlikeLemmas.{alike_before, goes_on},
    ChunkerLemmas.is_said,
    FreshLemmas.settled_none,
    UnsaidLemmas.{past_pieces, start_some},
  },
}
use Rattle.split_core.specs.Ways as ways
use Rattle.split_core.specs.declared.splitter.Splitter.TheVariants as way

-- The engine is to write this chunk of an input of this size, and was fed nothing.
pub record AsksFor (chunker : ChunkerState) (size chunk : ℕ) : Type 0 where
  pub said : chunker.said ≡ Some size
  pub aim : chunker.cutter.sink.aim ≡ to_output chunk
  pub fresh : Holds chunker []

-- A text that the engine may have been fed: no more bytes than stand before the chunk. With them the chunk at a place was begun.
record Begins (chunks : Chunks) (size chunk place : ℕ) (within : Bool) (z : List ℕ) : Type 0 where
  before : length z ≤ chunk_start chunks.count size chunk
  some : length z < chunk_start chunks.count size (chunk + 1)
  so : within ≡ is_within chunks.unit chunks.delim z
  placed : ended chunks size z ≡ place

module _ {chunker : ChunkerState} {size chunk : ℕ} (asks : AsksFor chunker size chunk) where
  abbrev chunks : Chunks
  chunks = chunker.cutter.chunks

  abbrev start : ℕ → ℕ
  start = chunk_start chunks.count size

  course_is : course chunker.cutter ≡ in_output chunk
  course_is = ap course_of asks.aim

  none : IsSaid chunker size []
  none = is_said asks.said asks.fresh

  can : nat_lt chunk chunks.count ≡ true
  can = grind (arith, common_steps)

  less : chunk < chunks.count
  less = ltb-true _ _ can

  it : work chunker ≡ chunk_work chunk chunks (Some size)
  it = grind (arith, common_steps, course_is)

  spare_none : chunker.spare ≡ 0
  spare_none = omega
      (arith, none.spare.long, ap length none.spare.joined ∙ length-append none.spare.used none.spare.rest)

  ends_in : start (chunk + 1) ≤ size
  ends_in = grind (arith, common_steps)

  later : start chunk ≤ start (chunk + 1)
  later = grind (arith, common_steps)

  fits : {place : ℕ} {within : Bool} {z : List ℕ} → Begins chunks size chunk place within z → length z < size
  fits begins = omega (arith, begins.some, ends_in)

  -- nothing is written of this text
  writes_none : {place : ℕ} {within : Bool} {z : List ℕ} → Begins chunks size chunk place within z
      → (chunk_work chunk chunks (Some size)).settled z ≡ nothing
  writes_none {z = z} begins =
      ap (λ text. piece_at chunk (chunks_within chunks size text)) (take_all size z (omega (arith, fits begins)))
      ∙ ap only_out
      (past_pieces chunks size chunk z (begun_long chunks.unit chunks.delim (start chunk) z begins.before))

  has_cut : {place : ℕ} {within : Bool} {z : List ℕ} → Begins chunks size chunk place within z
      → HasCut (passed_to chunker (length z) place within).cutter z (chunks_within chunks size z)
  has_cut {z = z} begins = grind (arith, common_steps, can, none, length-map-range_with_len)

  holds_front : {place : ℕ} {within : Bool} {z : List ℕ} → Begins chunks size chunk place within z
      → Holds (passed_to chunker (length z) place within) z
  holds_front {place} {within} {z} begins =
      subst (λ said. HoldsBy said (passed_to chunker (length z) place within) z) (sym asks.said) (record {
        spare = record {
          used = z;
          rest = [];
          joined = sym (append-nil z);
          long = sym spare_none;
          needed = inr (
            z,
            [],
            sym (append-nil z),
            omega arith,
            ap (λ (those : Work). those.is_complete z) (ap (λ on. work_on on chunks (Some size)) course_is)
                ∙ goes_on chunk chunks size less z begins.some,
          );
          enough = inl refl;
        };
        within = omega (arith, fits begins);
        cut = has_cut begins;
        waits = none.waits;
      })

  took_in : {place : ℕ} {within : Bool} {z : List ℕ} → Begins chunks size chunk place within z
      → TookIn ways.terms (way.Chunks chunker) (way.Chunks (passed_to chunker (length z) place within)) z
  took_in {z = z} begins = record {
    same = refl;
    size = omega (arith, spare_none, ap length none.waits);
    holds = holds_front begins;
    ready = λ slots is. is;
    owns = λ first slots is. is;
    idle = ap (λ (those : Work). those.settled z) it ∙ writes_none begins
        ∙ sym (ap (λ (those : Work). those.settled []) it
        ∙ settled_none (in_output chunk) chunks (Some size) can (omega (arith, fits begins)));
    going = inr (ap (λ (those : Work). those.is_complete z) it ∙ goes_on chunk chunks size less z begins.some);
  }

  -- nothing is written if the stage was fed another text that is alike
  took_other : {place : ℕ} {within : Bool} {z : List ℕ} → Begins chunks size chunk place within z
      → (front : ℕ) (x : List ℕ) → front ≡ length x → AreAlike (chunk_work chunk chunks (Some size)) x z
      → TookIn (as_if ways.terms) (way.Chunks chunker) (way.Chunks (passed_to chunker front place within)) x
  took_other {place} {within} {z} begins front x long alike = subst
      (λ front. TookIn (as_if ways.terms) (way.Chunks chunker) (way.Chunks (passed_to chunker front place within)) x)
      (sym (long ∙ alike.long))
      (took_as ways.terms (subst (λ work. AreAlike work x z) (sym it) alike) (took_in begins))

  -- of bytes, all that stands before a chunk that has a byte is passed over
  pub takes_bytes : chunks.unit ≡ Bytes → start chunk < start (chunk + 1)
      → TakesFront chunker (start chunk, chunk, false)
  takes_bytes unit some x long = took_other {z = x} (record {
    before = omega (arith, long);
    some = omega (arith, long, some);
    so = sym (ap (λ unit. is_within unit chunks.delim x) unit ∙ lt-leb _ _ (omega arith));
    placed = ended_only {chunks = chunks} {size = size} {x = x} (record {
      within = omega (arith, less);
      before = omega (arith, has_passed, long);
      next = λ less. omega (arith, has_passed, long, some);
    });
  }) (start chunk) x long (same_alike _ x) where
    has_passed : passed chunks size x ≡ length x
    has_passed = passed_open chunks size x (omega (arith, long, some, ends_in))
        ∙ ap (λ unit. open_from unit chunks.delim x) unit

  -- of lines, all except the last byte before the chunk is passed over, as if it had no delimiter
  abbrev without : ℕ → List ℕ
  without n = replicate n (chunks.delim + 1)

  none_in : (n : ℕ) → delimiters chunks.delim (without n) ≡ 0
  none_in zero = refl
  none_in (suc n) = rw (ne_eqb (chunks.delim + 1) chunks.delim (λ is. omega (arith, is))) (none_in n)

  pub takes_lines : chunks.unit ≡ Lines → 1 < start chunk → TakesFront chunker (start chunk - 1, 0, true)
  takes_lines unit some x long = took_other {z = z} (record {
    before = omega (arith, size_z);
    some = omega (arith, size_z, later);
    so = sym (ap (λ unit. is_within unit chunks.delim z) unit ∙ lt-ltb _ _ (omega (arith, from_front, size_z)));
    placed = ended_only {chunks = chunks} {size = size} {x = z} (record {
      within = omega arith;
      before = omega (arith, start_first chunks.count size);
      next = λ more. omega (arith, has_passed, start_some chunks.count size (omega (arith, less)) fits_in);
    });
  }) n x long (alike_before chunk chunks size less x z (omega (arith, long, size_z)) (omega (arith, long, some))) where
    n : ℕ
    n = start chunk - 1

    z : List ℕ
    z = without n

    size_z : length z + 1 ≡ start chunk
    size_z = omega (arith, length-replicate n (chunks.delim + 1), some)

    fits_in : 0 < size
    fits_in = omega (arith, some, later, ends_in)

    from_front : open_from Lines chunks.delim z ≡ 0
    from_front = open_from_none chunks.delim z (none_in n)

    has_passed : passed chunks size z ≡ 0
    has_passed = passed_open chunks size z (omega (arith, size_z, later, ends_in))
        ∙ ap (λ unit. open_from unit chunks.delim z) unit ∙ from_front
