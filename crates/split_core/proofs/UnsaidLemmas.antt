-- Chunks of an input that doesn't show its length.
use Rattle.std.proofs.Common.{rules}
use Rattle.std.proofs.lemmas.Grind.{common_steps}
use Rattle.std.specs.{Option.is_none}
use Rattle.std.proofs.{
  lemmas.Bool.{cases_lt, false≢true, ltb-false, ltb-true, or_cases, or_parts},
  lemmas.List.{get_or_past, drop_at, take_all, take-append-drop, length-append, length-drop, length-take},
  lemmas.List.FromFn.{get_or-map-range_with_len, length-map-range_with_len, map-range_with_len_more},
  Common.{◌≡◌, ℕ, ◌+◌, ◌-◌, ◌<◌, ◌≤◌, max, min, zero, suc, Bool, true, false, ◌||◌, nat_lt, List, [], ◌++◌},
  Common.{◌⊎◌, IfNone, length, take, drop, get_or, Option, Some, None, Result, Ok, Err, inl, inr, refl, sym, ◌∙◌, ap},
  Common.{arith, append_assoc},
  Math.Seq.drop-append-add,
}
use Rattle.engine_core.{
  specs.{Written.Begins, declared.file_writer.Opening.TheVariants.Never, InTurn.fault_in},
  proofs.{
    WrittenLemmas.{part_begins_itself, part_trans},
    ShareLemmas.next_begins,
    FileWriterLemmas.{in_any, where_well},
  },
}
use Rattle.ports_core.specs.{Slot.{Effect, Slot, effect}, declared.fault.Fault.Fault}
use Rattle.seg_core.specs.declared.{cut.Chunks.Chunks}
use Rattle.split_core.specs.{
  Chunks.{before_chunk, pieces_in, begun_before, chunk_start, chunks_within, open_from, passed},
  Parts.{CutUp, uncut},
  ChunkerState.{AimState, Carries, ChunkerState, Course, course_of, to_files, to_output, CutterState, Holds, IsAimed},
  ChunkerState.{IsUnsaid, SinkState, can_cut, course, first_on, in_files, in_output, part_on, whole_on, work},
  ChunkerState.work_on,
  Split.manner_of,
  ChunkWork.draft_by,
  inner.Chunker.{EndsAs, PassesAs},
  inner.Cutter.{BeginsBefore, CutsMore, CutsAs, EndsFull, EndsHeld, IsCut, IsCutOff, IsFront, Settles, WritesTo},
  inner.Cutter.{all_before, cut_to},
  inner.Brings.{Brings, Changes, EndsAll, Gives, Stays, with_rest},
  inner.Chunks.cut_before,
  laws.ChunkLaws.{chunk_none, passed_full, passed_open, start_first, begin_then_rest, start_by_size, start_grows},
  laws.ChunkLaws.start_within,
  laws.BegunLaws.{begun_again, begun_begins, begun_later, begun_on, begun_some, begun_stays, open_within},
}
use Rattle.split_core.proofs.{
  ChunkerWays.{ends_at, passes_at},
  CutterLemmas.{within_are, cut_of, so_grows, cutting, has_cut, name_of, no_line, open_early, some_in},
  ChunkerLemmas.{complete_all, past_is, whole_within},
  SinkLemmas.{brings_none, brings_then, brings_wider, stays_none, stays_then, whole_draft},
}

-- What is settled is written

-- what comes goes on with what was cut off
goes_on_so : (cutter : CutterState) (end : ℕ) (w : List ℕ) → BeginsBefore cutter end w
    → true ≡ (nat_lt cutter.at end || cutter.is_within) → open_from cutter.chunks.unit cutter.chunks.delim w < end
goes_on_so cutter end w (has, all) short = grind (arith, common_steps, or_cases, ltb-true, open_within, open_early)

writes_on : (cutter : CutterState) (end : ℕ) (w front : List ℕ) → BeginsBefore cutter end w
    → true ≡ (nat_lt cutter.at end || cutter.is_within)
    → begun_before cutter.chunks.unit cutter.chunks.delim end (w ++ front) ≡ w ++ cut_to cutter end front
writes_on cutter end w front so short =
    rw so.0.at (begun_on _ _ _ w _ (goes_on_so _ _ w so short))

-- nothing waits, or what waits goes with what comes later
still_all : (cutter : CutterState) (waiting : List ℕ) (end : ℕ) (z : List ℕ) → BeginsBefore cutter end z
    → (length waiting ≡ 0) ⊎ (false ≡ (nat_lt cutter.at end || cutter.is_within)) → all_before cutter waiting end z ≡ z
still_all cutter waiting end z (has, all) (inl none) = grind (arith, common_steps)
still_all cutter waiting end z (has, all) (inr stops) = grind (arith, common_steps, or_parts, no_line, begun_stays, ltb-false)

pub settles_none : {visible : Bool} {cutter : CutterState} {waiting : List ℕ} {end : ℕ} {slots : List Slot}
    → IsAimed cutter.sink.aim slots
    → (length waiting ≡ 0) ⊎ (false ≡ (nat_lt cutter.at end || cutter.is_within))
    → Settles cutter cutter waiting waiting end (effect visible slots slots) None
settles_none {cutter = cutter} {waiting} {end} ready ends = record {
  chunks = refl;
  bound = omega arith;
  stays = stays_none ready;
  brings = λ z so. rw (still_all _ _ _ z so ends) brings_none;
  leads = λ z so. rw (still_all _ _ _ z so ends) (so.0, sym (drop_at z waiting (length z) refl));
}

module _ {visible : Bool} {cutter : CutterState} (waiting : List ℕ) (end : ℕ) {old : List Slot}
    (short : true ≡ (nat_lt cutter.at end || cutter.is_within)) where
  gives_on : {next : SinkState} {new : List Slot} {fault : Option Fault}
      → Changes cutter.sink next (with_rest (cut_to cutter end waiting)) (effect visible old new) fault → (z : List ℕ)
      → BeginsBefore cutter end z
      → Gives (course cutter) cutter.sink next (uncut z) (uncut (all_before cutter waiting end z))
      (effect visible old new) fault
  gives_on changes z so = let has = so.0 in let less : cutter.sink.place < cutter.chunks.count = omega (arith, some_in has) in
      rw (writes_on _ _ z _ so short) (changes.gives (uncut z) (has.carries, name_of _ _ _ has.all less))

  pub settles_on : {next : CutterState} {left : List ℕ} {new : List Slot} {n : ℕ}
      → WritesTo cutter next end waiting (effect visible old new) (Ok n) → left ≡ drop n waiting
      → Settles cutter next waiting left end (effect visible old new) None
  settles_on {next} {left} {new} {n} writes is = let y = cut_to cutter end waiting in let step = cutting _ writes in
      let long : length y ≡ n = omega (arith, ap length writes.count.2, length-take n waiting) in
      record {
        chunks = writes.chunks;
        bound = omega (arith, ap length is, length-drop n waiting);
        stays = writes.changes.stays;
        brings = λ z so. (gives_on writes.changes z so).brings;
        leads = λ z so. let all = writes_on _ _ z _ so short in
            let both : length (z ++ y) ≡ length z + n = omega (arith, length-append z y) in (
              rw all (has_cut y writes.chunks step.course (omega arith) writes.within
                  (omega arith) so.0 (rw all at (gives_on writes.changes z so).carries)),
              is ∙ sym (ap (λ x. drop (length x) (z ++ waiting)) all ∙ ap (λ k. drop k (z ++ waiting)) both ∙ drop-append-add z waiting n),
            );
      }

  pub settles_not : {next : CutterState} {new : List Slot} {why : Fault}
      → WritesTo cutter next end waiting (effect visible old new) (Err why)
      → Settles cutter next waiting waiting end (effect visible old new) (Some why)
  settles_not {why = why} writes = record {
    chunks = writes.chunks;
    bound = omega arith;
    stays = writes.changes.stays;
    brings = λ z so. (gives_on writes.changes z so).brings;
    leads = λ z so. tt;
  }

-- A piece

pub first_fits : (on : Course) (count : ℕ) → can_cut on count ≡ true → first_on on ≤ count
first_fits (in_files filing elide) count can = search rules
first_fits (in_output chunk) count can = search rules

first_some : (on : Course) → 0 < first_on on
first_some (in_files filing elide) = omega arith
first_some (in_output chunk) = omega arith

pub is_unsaid : {chunker : ChunkerState} {x : List ℕ} → chunker.said ≡ None → Holds chunker x → IsUnsaid chunker x
is_unsaid {chunker} {x} said holds = grind (arith, common_steps)

unsaid_is : {chunker : ChunkerState} {x : List ℕ} → chunker.said ≡ None → IsUnsaid chunker x → Holds chunker x
unsaid_is {chunker} {x} said is = grind (arith, common_steps)

-- what was cut off, of what came in
abbrev pub cut_front : ChunkerState → List ℕ → List ℕ
cut_front chunker x = before_chunk chunker.cutter.chunks (length x) (first_on (course chunker.cutter)) x

settled_none : (chunker : ChunkerState) (x : List ℕ) → chunker.said ≡ None
    → part_on (course chunker.cutter) (uncut (cut_front chunker x)) ≡ (work chunker).settled x
settled_none chunker x said =
    rw said refl

module _ {chunker : ChunkerState} {x : List ℕ} (has : IsUnsaid chunker x) where
  all_came : cut_front chunker x ++ chunker.waiting ≡ x
  all_came = grind (arith, common_steps, begin_then_rest, begun_begins)

  front_before : (more : List ℕ)
      → BeginsBefore chunker.cutter
      (chunk_start chunker.cutter.chunks.count (length (x ++ more)) (first_on (course chunker.cutter)))
      (cut_front chunker x)
  front_before more = let on = course chunker.cutter in let chunks = chunker.cutter.chunks in
      let fits = first_fits _ _ has.cut.can in
      let low : length x ≤ length (x ++ more) = omega (arith, length-append x more) in
      let later = start_by_size _ _ _ _ (some_in has.cut) fits low in (
        has.cut,
        begun_later _ _ _ later
            (begun_again _ _ _ x),
      )

  came_more : (piece : List ℕ) → cut_front chunker x ++ (chunker.waiting ++ piece) ≡ x ++ piece
  came_more piece = rw all_came at (sym (append_assoc (cut_front chunker x) chunker.waiting piece))

module _ (chunker : ChunkerState) (piece : List ℕ) {end : ℕ}
    (ends : end ≡ chunk_start chunker.cutter.chunks.count (chunker.cutter.at + length (chunker.waiting ++ piece))
    (first_on (course chunker.cutter))) where
  end_is : {x : List ℕ} → IsUnsaid chunker x
      → end ≡ chunk_start chunker.cutter.chunks.count (length (x ++ piece)) (first_on (course chunker.cutter))
  end_is {x} has = grind (arith, common_steps, length-append, came_more)

  to_is : {x : List ℕ} → IsUnsaid chunker x
      → all_before chunker.cutter (chunker.waiting ++ piece) end (cut_front chunker x) ≡ cut_front chunker (x ++ piece)
  to_is has = rw (came_more has piece, end_is has) refl

module _ {chunker next : ChunkerState} {piece : List ℕ} {end : ℕ} {outs : Effect}
    (said : chunker.said ≡ None) (same : next.said ≡ chunker.said)
    (spare : next.spare ≡ chunker.spare)
    (ends : end ≡ chunk_start chunker.cutter.chunks.count (chunker.cutter.at + length (chunker.waiting ++ piece))
    (first_on (course chunker.cutter))) where
  pub passes_unsaid : (result : Result (Unit {0}) Fault)
      → Settles chunker.cutter next.cutter (chunker.waiting ++ piece) next.waiting end
      outs (fault_in result)
      → PassesAs chunker next piece outs result
  passes_unsaid result settles = passes_at result (record { said = same; chunks = settles.chunks })
      (omega (arith, length-append chunker.waiting piece))
      (record {
        stays = settles.stays;
        brings = λ x holds. let has = is_unsaid said holds in
            rw (to_is chunker piece ends has, settled_none chunker x said, settled_none chunker (x ++ piece) said) at
            (settles.brings _ (before has));
      })
      (λ x holds. let has = is_unsaid said holds in
      let to = to_is chunker piece ends has in
      let on : cut_front next (x ++ piece) ≡ cut_front chunker (x ++ piece) =
      rw (settles.chunks, settles.stays.course) refl in
      where_well (fault_in result) (settles.leads _ (before has)) (λ led. unsaid_is (same ∙ said) (record {
        cut = rw on (rw to at led.0);
        waits = rw on (rw (to, came_more has piece) at led.1);
        spare = spare ∙ has.spare;
      }))) where
        before : {x : List ℕ} → IsUnsaid chunker x → BeginsBefore chunker.cutter end (cut_front chunker x)
        before has = rw (end_is chunker piece ends has) (front_before has piece)

-- The end

pub start_some : (n size : ℕ) → 0 < n → 0 < size → 0 < chunk_start n size 1
start_some n size count some = grind (arith, common_steps)

none_before : (chunks : Chunks) (size : ℕ) (z : List ℕ) → cut_before chunks size z 0 ≡ uncut z
none_before chunks size z = grind arith

pub none_within : (chunks : Chunks) (size : ℕ) → 0 < chunks.count → 0 < size → chunks_within chunks size [] ≡ uncut []
none_within chunks size count some = within_are [] count (omega arith) (record {
  within = omega arith;
  before = omega (arith, start_first chunks.count size);
  next = λ less. omega (
    arith,
    start_some chunks.count size count some,
    passed_open chunks size [] some,
    open_within chunks.unit chunks.delim [],
  );
}) ∙ none_before chunks size []

pub past_pieces : (chunks : Chunks) (size chunk : ℕ) (z : List ℕ) → before_chunk chunks size chunk z ≡ z
    → get_or (pieces_in (chunks_within chunks size z)) chunk [] ≡ []
past_pieces chunks size chunk z all =
    grind (arith, common_steps, map-range_with_len_more, cases_lt, get_or-map-range_with_len, chunk_none, get_or_past, length-map-range_with_len)

-- what is written so far begins the whole

whole_begins : (on : Course) (cut : CutUp) → Begins (part_on on cut) (whole_on on cut)
whole_begins (in_files filing elide) cut =
    rw (whole_draft filing elide cut) at (next_begins (manner_of filing) Never (draft_by elide cut))
whole_begins (in_output chunk) cut = part_begins_itself _

settled_cut : {cutter : CutterState} {waiting : List ℕ} {size : ℕ} {z : List ℕ} → IsFront cutter waiting size z
    → before_chunk cutter.chunks size (first_on (course cutter)) z ≡ z
settled_cut {cutter} {waiting} {size} {z} so = grind (arith, common_steps, begun_again)

-- what stands before the chunk `first` reaches the chunk before it
settled_far : {cutter : CutterState} {waiting : List ℕ} {size : ℕ} {z : List ℕ} → IsFront cutter waiting size z
    → chunk_start cutter.chunks.count size (first_on (course cutter)) ≤ passed cutter.chunks size z
settled_far {cutter} {waiting} {size} {z} so = let chunks = cutter.chunks in
    let place = first_on (course cutter) in let some = some_in so.cut in
    let few = first_fits (course cutter) chunks.count so.cut.can in elim (cases_lt 0 (length waiting)) [
      | inr none ↦ omega (arith, so.all, passed_full chunks size z, start_within chunks.count size place some few)
      | inl more ↦ elim (cases_lt (open_from chunks.unit chunks.delim z) (chunk_start chunks.count size place)) [
        | inr far ↦ omega (arith, so.all, passed_open chunks size z)
        | inl early ↦ absurd (omega (
          arith,
          ap length (sym so.is ∙ begun_on chunks.unit chunks.delim (chunk_start chunks.count size place) z waiting early),
          length-append z (begun_before chunks.unit chunks.delim (max (chunk_start chunks.count size place - length z) 1) waiting),
          begun_some chunks.unit chunks.delim (max (chunk_start chunks.count size place - length z) 1) waiting (omega arith) more,
        ))
      ]
    ]

-- the chunk before `first` counts as begun
abbrev pub first_begun : CutterState → CutterState
first_begun cutter = record cutter { sink = record cutter.sink { place = first_on (course cutter) - 1 } }

front_part : (on : Course) (chunks : Chunks) (size : ℕ) (z : List ℕ)
    → part_on on (uncut z) ≡ part_on on (cut_before chunks size z (first_on on - 1))
front_part (in_files filing elide) chunks size z = grind (arith, common_steps)
front_part (in_output zero) chunks size z = grind (arith, common_steps)
front_part (in_output (suc chunk)) chunks size z = grind (arith, common_steps, get_or_past, length-append, length-map-range_with_len)

front_carries : (aim : AimState) (chunks : Chunks) (size : ℕ) {place : ℕ} (z : List ℕ)
    → Carries (record { place = place; aim = aim }) (uncut z)
    → Carries (record { place = first_on (course_of aim) - 1; aim = aim })
    (cut_before chunks size z (first_on (course_of aim) - 1))
front_carries (to_files writer elide) chunks size z carries = grind (arith, common_steps)
front_carries (to_output chunk) chunks size z carries = record { placed = length-map-range_with_len _ 0 _; has = tt }

cut_off_so : {cutter : CutterState} {waiting : List ℕ} {size : ℕ} {z : List ℕ} → IsFront cutter waiting size z
    → IsCutOff (first_begun cutter) size z
cut_off_so {cutter} {waiting} {size} {z} so = let place = first_on (course cutter) in
    let past : place - 1 + 1 ≡ place = omega (arith, first_some (course cutter)) in record {
      cut = record {
        can = so.cut.can;
        all = so.cut.all;
        at = so.cut.at;
        within = so.cut.within;
        carries = front_carries cutter.sink.aim cutter.chunks size z so.cut.carries;
      };
      fits = omega (arith, so.all);
      few = omega (arith, first_fits (course cutter) cutter.chunks.count so.cut.can);
      before = omega (arith, settled_far so, start_grows cutter.chunks.count size (place - 1) place (omega arith));
      begun = rw past (settled_cut so);
    }

to_whole : {cutter : CutterState} {waiting : List ℕ} {size : ℕ} (z : List ℕ) → IsFront cutter waiting size z
    → Begins (part_on (course cutter) (chunks_within cutter.chunks size z))
    (whole_on (course cutter) (chunks_within cutter.chunks size (z ++ waiting)))
to_whole {cutter} {waiting} {size} z so = part_trans _ _ _ (so_grows (course cutter) cutter.chunks size z waiting
    (some_in so.cut) (omega (arith, length-append z waiting))) (whole_begins (course cutter) _)

module _ {visible : Bool} {cutter start mid : CutterState} {waiting : List ℕ} {size : ℕ} {old wet : List Slot}
    (is : start ≡ first_begun cutter) where
  gives_first : {fault : Option Fault} → EndsFull start mid size (effect visible old wet) fault → {z : List ℕ}
      → IsFront cutter waiting size z
      → Brings (course cutter) cutter.sink.aim mid.sink.aim (part_on (course cutter) (uncut z))
      (part_on (course cutter) (chunks_within cutter.chunks size z)) (effect visible old wet) fault
      × IfNone fault (IsCut mid size z)
  gives_first {fault} ends {z} so = grind (arith, common_steps, front_part, cut_off_so)

  pub held_not_ended : {why : Fault} → EndsFull start mid size (effect visible old wet) (Some why)
      → EndsHeld cutter mid waiting waiting size (effect visible old wet) (Some why)
  held_not_ended ends = let full = rw is at ends in record {
    chunks = full.chunks;
    bound = omega arith;
    stays = full.stays;
    brings = λ z so. brings_wider (to_whole z so) (gives_first ends so).0;
  }

  module _ (ends : EndsFull start mid size (effect visible old wet) None) {done : List ℕ} {next : CutterState}
      {new : List Slot}
      {fault : Option Fault} (few : length done ≤ length waiting)
      (cuts : CutsMore mid next size done (effect visible wet new) fault) where
    rest_cut : (z : List ℕ) → IsFront cutter waiting size z
        → Brings (course cutter) cutter.sink.aim next.sink.aim (part_on (course cutter) (uncut z))
        (part_on (course cutter) (chunks_within cutter.chunks size (z ++ done))) (effect visible old new) fault
        × IfNone fault (IsCut next size (z ++ done))
    rest_cut z so = let full = rw is at ends in let first = gives_first ends so in
        let fits : length (z ++ done) ≤ size = omega (arith, so.all, length-append z done) in (
          brings_then first.0 (rw (full.stays.course, full.chunks) at (cuts.brings z first.1 fits)),
          cuts.leads z first.1 fits,
        )

  pub held_not_cut : {next : CutterState} {new : List Slot} {why : Fault}
      → size ≡ cutter.at + length waiting → EndsFull start mid size (effect visible old wet) None
      → CutsMore mid next size (take (min (length waiting) (size - mid.at)) waiting) (effect visible wet new) (Some why)
      → EndsHeld cutter next waiting [] size (effect visible old new) (Some why)
  held_not_cut all full stopped =
      let ends = rw is at full in let same = take_all (min (length waiting) (size - mid.at)) waiting (omega arith) in
      let cuts = rw same at stopped in record {
        chunks = cuts.chunks ∙ ends.chunks;
        bound = omega arith;
        stays = stays_then ends.stays (rw ends.stays.course at cuts.stays);
        brings = λ z so. brings_wider (whole_begins (course cutter) _) (rest_cut full (omega arith) cuts z so).0;
      }

  -- what is left once the output is complete changes nothing
  pub held_ends : {later next : CutterState} {left : ℕ} {between new : List Slot} (fault : Option Fault)
      → size ≡ cutter.at + length waiting → EndsFull start mid size (effect visible old wet) None
      → CutsAs mid later size waiting left (effect visible wet between)
      → EndsAll later.sink next.sink (effect visible between new) fault → next.chunks ≡ later.chunks
      → next.at ≡ later.at
      → EndsHeld cutter next waiting [] size (effect visible old new) fault
  held_ends {later} {left = left} {between} fault all full cuts last chunks at = record {
    chunks = chunks ∙ same;
    bound = omega (arith, ends.at);
    stays = stays_then first (rw first.course at last.stays);
    brings = λ z so. let (brings, has) = rest_cut full few cuts.cuts z so in
        brings_then brings (rw (first.course, whole z so has) at (last.brings _ (rw same at has.cut.carries)));
  } where
    ends : EndsFull (first_begun cutter) mid size (effect visible old wet) None
    ends = rw is at full

    done : List ℕ
    done = take (length waiting - left) waiting

    few : length done ≤ length waiting
    few = omega (arith, length-take (length waiting - left) waiting)

    same : later.chunks ≡ cutter.chunks
    same = cuts.cuts.chunks ∙ ends.chunks

    first : Stays (course cutter) cutter.sink.aim later.sink.aim old between None
    first = stays_then ends.stays (rw ends.stays.course at cuts.cuts.stays)

    whole : (z : List ℕ) → IsFront cutter waiting size z → IsCut later size (z ++ done)
        → whole_on (course cutter) (chunks_within cutter.chunks size (z ++ done))
        ≡ whole_on (course cutter) (chunks_within cutter.chunks size (z ++ waiting))
    whole z so has = elim cuts.enough [
      | inl none ↦ used none
      | inr later ↦ elim later [
        | inl past ↦
            let on = course cutter in let chunks = cutter.chunks in let work = work_on on chunks (Some size) in
            let rest = drop (length waiting - left) waiting in
            let both : (z ++ done) ++ rest ≡ z ++ waiting = append_assoc z done rest
            ∙ ap (λ those. z ++ those) (take-append-drop (length waiting - left) waiting) in
            let complete : work.is_complete (z ++ done) ≡ true = rw (first.course, same) at (sym (past_is has) ∙ past) in
            complete_all on chunks size (z ++ done) rest so.cut.can has.fits complete ∙ ap work.whole both
            ∙ sym (whole_within on chunks size (z ++ waiting) (omega (arith, length-append z waiting)))
        | inr past ↦ used (omega (arith, ends.at))
      ]
    ] where
      used : left ≡ 0 → whole_on (course cutter) (chunks_within cutter.chunks size (z ++ done))
          ≡ whole_on (course cutter) (chunks_within cutter.chunks size (z ++ waiting))
      used none = let all : done ≡ waiting = take_all (length waiting - left) waiting (omega arith) in
          rw all refl

-- as the stage ends

well_none : (on : Course) (chunks : Chunks) (x : List ℕ) → (work_on on chunks None).verdict x ≡ None
well_none (in_files filing elide) chunks x = refl
well_none (in_output chunk) chunks x = refl

pub ends_unsaid : {chunker next : ChunkerState} {size : ℕ} {outs : Effect}
    (result : Result (Unit {0}) Fault) → IsAimed chunker.cutter.sink.aim outs.old
    → chunker.said ≡ None → next.said ≡ chunker.said → next.spare ≡ chunker.spare
    → size ≡ chunker.cutter.at + length chunker.waiting
    → EndsHeld chunker.cutter next.cutter chunker.waiting next.waiting size outs (fault_in result)
    → EndsAs chunker next outs result
ends_unsaid {chunker = chunker} {size = size} result aimed said same spare size_is ends =
    let fault = fault_in result in let on = course chunker.cutter in let chunks = chunker.cutter.chunks in
    ends_at result aimed (record { said = same; chunks = ends.chunks }) (omega arith)
    (record {
      stays = ends.stays;
      brings = λ x holds. let has = is_unsaid said holds in
          let whole : whole_on on (chunks_within chunks size (cut_front chunker x ++ chunker.waiting)) ≡ (work chunker).whole x =
          rw (all_came has, long x has, said)
          (ap (whole_on on) (sym (cut_of chunks (length x) x (omega arith)))) in
          rw (settled_none chunker x said, whole) at (ends.brings _ (record {
            cut = has.cut;
            all = omega arith;
            is = rw (all_came has, long x has) refl;
          }));
    })
    (λ x holds. in_any fault (rw said (well_none on chunks x)))
    (λ some. absurd (false≢true (sym some ∙ ap is_none said))) where
      long : (x : List ℕ) → IsUnsaid chunker x → size ≡ length x
      long x has = omega (arith, length-append (cut_front chunker x) chunker.waiting, ap length (all_came has))
