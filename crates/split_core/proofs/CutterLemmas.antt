-- Where a text is cut into chunks, and what goes where of it.
use Rattle.std.proofs.Common.{rules}
use Rattle.std.proofs.lemmas.Grind.{common_steps}
use Rattle.std.proofs.{
  lemmas.Bool.{cases_lt, false≢true, le-leb, le-ltb, lt-leb, lt-ltb, ltb-false, ltb-true, Decides.nat_tests},
  lemmas.List.{append-nil, take_all, take_at, take-append-drop, take_more, take-take, length-append, length-drop},
  lemmas.List.{drop-append-le, length-take},
  lemmas.List.FromFn.{length-map-range_with_len, map-range_with_len_more},
  Math.Seq.{drop-length, take-add},
  Common.{◌≡◌, ℕ, ◌+◌, ◌-◌, ◌<◌, ◌≤◌, min, zero, suc, Bool, true, false, cond, nat_lt, List, [], ◌∷◌, ◌++◌},
  Common.{◌⊎◌, length, take, drop, Option, Some, None, Ok, inl, inr, refl, sym, ◌∙◌, ap, subst, arith, zero-add},
  Common.{append_assoc, eqb, get_or, not},
}
use Rattle.engine_core.{
  specs.{Draft.draft_part, Written.Begins, Work.IsNeeded},
  proofs.WrittenLemmas.{out_begins, part_begins_itself, part_trans},
}
use Rattle.ports_core.specs.{Slot.{Effect, Slot, effect}, declared.{fault.Fault.Fault, slot.State.TheVariants.Open}}
use Rattle.seg_core.{
  specs.{
    Line.{delimiters, first_lines, lines_of},
    declared.{cut.Chunks.Chunks, unit.Unit.{Unit, TheVariants.{Bytes, Lines}}},
  },
  proofs.FirstLines.{delimiters-first_lines, first_lines-is_take, lines_of-first_lines},
}
use Rattle.split_core.specs.{
  Chunks.{before_chunk, begun_before, chunk_start, chunks_of, chunks_within, ended, is_within, open_from, passed},
  Chunks.chunk_at,
  ChunkWork.draft_by,
  ChunkerState.{Carries, Course, CutterState, HasAll, HasCut, IsAimed, can_cut, part_on, work_on, SinkState, course},
  ChunkerState.{in_files, in_output},
  Parts.CutUp,
  Split.manner_of,
  inner.Cutter.{CutsMore, CutsAs, EndsFull, IsCut, IsCutOff, IsOpen, CutsStretch, WritesTo, cut_to, part_at},
  inner.Cutter.said_work,
  inner.Chunks.{GoesOn as Goes, HaveEnded, cut_before},
  inner.Seen.{is_past_at, is_past_on},
  inner.Brings.{Brings, Changes, Gives, HasName, Stays, with_full, with_rest},
  laws.BegunLaws.{begun_begins, begun_long, begun_some, begun_stays, begun_within, open_append, open_within},
  laws.ChunkLaws.{before_later, before_next, before_stays, chunks_are, ended_after, ended_grows, ended_is},
  laws.ChunkLaws.{full_stays, passed_full, passed_grows, passed_open, piece_all, start_grows, start_past},
  laws.ChunkWorkLaws.{chunks_go_on, piece_on, shares_on},
  laws.ShareLaws.part_begins,
}
use Rattle.split_core.proofs.{
  SinkLemmas.{brings_none, brings_then, brings_wider, ends_begin, ends_full, piece_full, stays_none, stays_then},
}

-- The lines that begin before a place

-- the first line
first_of : (delim : ℕ) {rest first : List ℕ} (more : List ℕ) → rest ≡ first ++ more
    → (0 < length rest → lines_of delim rest ≡ first ∷ lines_of delim more) → first_lines delim 1 rest ≡ first
first_of delim {rest = []} {first = []} more is line = refl
first_of delim {rest = []} {first = byte ∷ first} more is line = absurd (cc)
first_of delim {rest = byte ∷ rest} {first} more is line = grind (arith, common_steps)

pub cut_lines : (delim q w : ℕ) (x : List ℕ) {rest first : List ℕ} (more : List ℕ) → w ≤ length x → w ≤ q
    → (w < q → w ≡ length x)
    → rest ≡ drop w x → rest ≡ first ++ more → (0 < length rest → lines_of delim rest ≡ first ∷ lines_of delim more)
    → take (w + length first) x ≡ begun_before Lines delim (suc q) x
cut_lines delim q w x {rest} {first} more within low all is split line =
    grind (arith, common_steps, cases_lt, take_all, begun_long, take-add, take_at, first_of)

-- Where a line is open

-- what begins before a place and goes on begins before it
pub begins_early : (unit : Unit) (delim place : ℕ) (x y : List ℕ) → begun_before unit delim place (x ++ y) ≡ x ++ y
    → 0 < length y → open_from unit delim x < place
begins_early unit delim place x y all some = elim (cases_lt (open_from unit delim x) place) [
  | inl before ↦ before
  | inr past ↦ (let same = sym all ∙ begun_stays unit delim place x y past in
      absurd (omega (arith, length-append x y, ap length same, begun_within unit delim place x)))
]

open_of_whole : (delim : ℕ) (x : List ℕ)
    → open_from Lines delim (first_lines delim (delimiters delim x) x) ≡ open_from Lines delim x
open_of_whole delim x = grind (arith, common_steps, delimiters-first_lines, lines_of-first_lines, take-take)

pub open_early : (unit : Unit) (delim place : ℕ) (x : List ℕ) → begun_before unit delim place x ≡ x
    → is_within unit delim x ≡ true → open_from unit delim x < place
open_early Bytes delim place x all within = grind (arith, common_steps)
open_early Lines delim place x all within = let first = first_lines delim (delimiters delim x) x in
    let rest = drop (length first) x in
    let both : first ++ rest ≡ x = ap (λ front. front ++ rest) (first_lines-is_take delim (delimiters delim x) x)
    ∙ take-append-drop (length first) x in
    let early = begins_early Lines delim place first rest (rw both all)
    (omega (arith, ltb-true _ _ within, ap length both, length-append first rest)) in
    omega (arith, open_of_whole delim x)

pub no_line : (unit : Unit) (delim : ℕ) (x : List ℕ) → is_within unit delim x ≡ false
    → open_from unit delim x ≡ length x
no_line unit delim x none = omega (arith, ltb-false _ _ none, open_within unit delim x)

pub within_last : (unit : Unit) (delim : ℕ) (x y : List ℕ) → 0 < length y
    → is_within unit delim (x ++ y) ≡ is_within unit delim y
within_last Bytes delim x y some = grind (arith, nat_tests)
within_last Lines delim x y some = by (nat_lt 0 (delimiters delim y)) refl (open_append _ x y) where
  by : (more : Bool) → nat_lt 0 (delimiters delim y) ≡ more
      → open_from Lines delim (x ++ y) ≡ cond more (length x + open_from Lines delim y) (open_from Lines delim x)
      → is_within Lines delim (x ++ y) ≡ is_within Lines delim y
  by true has is = rw (is, length-append x y) (grind (arith, nat_tests))
  by false has is = let none : delimiters delim y ≡ 0 = omega (arith, ltb-false _ _ has) in
      lt-ltb _ _ (omega (arith, length-append x y, open_within Lines delim x)) ∙ sym
      (lt-ltb (open_from Lines delim y) _ (rw none some))

one_within : (delim byte : ℕ) (ends : Bool) → eqb byte delim ≡ ends → is_within Lines delim (byte ∷ []) ≡ not ends
one_within delim byte true is = rw is refl
one_within delim byte false is = rw is refl

-- a text ends within a line exactly if its last byte is no delimiter
pub within_by : (delim : ℕ) (x : List ℕ) → 0 < length x
    → is_within Lines delim x ≡ not (eqb (get_or x (length x - 1) 0) delim)
within_by delim x some = let n = length x - 1 in
    let last = get_or x n 0 in
    let all : x ≡ take n x ++ last ∷ [] = grind (arith, common_steps, take_more) in
    ap (is_within Lines delim) all ∙ within_last Lines delim (take n x) (last ∷ []) (omega arith)
    ∙ one_within delim last (eqb last delim) refl

-- The chunks that have ended

-- if no line is open before the text has its size, all of the text is passed
passed_all : (chunks : Chunks) (size : ℕ) (x : List ℕ) → length x ≤ size
    → (is_within chunks.unit chunks.delim x ≡ true → size ≤ length x) → passed chunks size x ≡ length x
passed_all chunks size x fits whole = grind (arith, common_steps, cases_lt, passed_open, passed_full, no_line)

passed_few : (chunks : Chunks) (size : ℕ) (x : List ℕ) → length x ≤ size → passed chunks size x ≤ length x
passed_few chunks size x fits = grind (arith, cases_lt, passed_open, passed_full, open_within)

pub within_are : {chunks : Chunks} {size : ℕ} (x : List ℕ) {place : ℕ} → 0 < chunks.count → length x ≤ size
    → HaveEnded chunks size x place → chunks_within chunks size x ≡ cut_before chunks size x place
within_are {chunks} {size} x some fits is = rw (take_all size x fits) at (chunks_are chunks size x some fits is)

-- the next chunk ends
full_next : (chunks : Chunks) (size : ℕ) (x : List ℕ) (place : ℕ) → before_chunk chunks size (place + 1) x ≡ x
    → with_full (cut_before chunks size x place) ≡ cut_before chunks size x (place + 1)
full_next chunks size x place all = let full = map-range_with_len_more (chunk_at chunks size x) 0 place place (zero-add _) in
    grind (arith, common_steps, full, drop-length)

full_begins : (on : Course) (cut : CutUp) → Begins (part_on on cut) (part_on on (with_full cut))
full_begins (in_files filing elide) cut = let manner = manner_of filing in
    subst (Begins _) (ap (draft_part manner) (ends_full elide cut)) (ends_begin elide manner (draft_by elide cut))
full_begins (in_output chunk) cut = rw (piece_full _ _) (part_begins_itself _)

-- what is written before more chunks end begins what is written then
fulls_begin : (on : Course) (chunks : Chunks) (size : ℕ) (x : List ℕ) (place more : ℕ)
    → before_chunk chunks size (place + 1) x ≡ x
    → Begins (part_on on (cut_before chunks size x place)) (part_on on (cut_before chunks size x (place + more)))
fulls_begin on chunks size x place zero all = let e : place + 0 ≡ place = omega arith in rw e (part_begins_itself _)
fulls_begin on chunks size x place (suc more) all = let e : place + suc more ≡ place + 1 + more = omega arith in
    rw e (part_trans _ _ _ (rw (full_next chunks size x place all) at (full_begins on (cut_before chunks size x place)))
    (fulls_begin on chunks size x (place + 1) more (before_later chunks size x (place + 1) _ (omega arith) all)))

ended_begins : (on : Course) (chunks : Chunks) (size : ℕ) (x : List ℕ) (place : ℕ) → 0 < chunks.count
    → length x ≤ size → place ≤ ended chunks size x → before_chunk chunks size (place + 1) x ≡ x
    → Begins (part_on on (cut_before chunks size x place)) (part_on on (chunks_within chunks size x))
ended_begins on chunks size x place some fits less all =
    let more = ended chunks size x - place in let e : place + more ≡ ended chunks size x = omega arith in
    rw (within_are x some fits (ended_is chunks size x)) (rw e at (fulls_begin on chunks size x place more all))

pub some_of : (on : Course) (count : ℕ) → can_cut on count ≡ true → 0 < count
some_of (in_files filing elide) count can = ltb-true _ _ can
some_of (in_output chunk) count can = search rules

pub some_in : {cutter : CutterState} {x : List ℕ} {cut : CutUp} → HasCut cutter x cut → 0 < cutter.chunks.count
some_in {cutter} has = some_of _ _ has.can

pub name_of : (on : Course) (count place : ℕ) → HasAll on count → place < count → HasName on place
name_of (in_files filing elide) count place all less = grind (arith, common_steps)
name_of (in_output chunk) count place all less = tt

-- Chunks end one after another

-- the chunks from one place to another ended
pub record Ending (visible : Bool) (cutter : CutterState) (size : ℕ) (old slots : List Slot) (now : CutterState)
    : Type 0 where
  pub chunks : now.chunks ≡ cutter.chunks
  pub at : now.at ≡ cutter.at
  pub within : now.is_within ≡ cutter.is_within
  pub stays : Stays (course cutter) cutter.sink.aim now.sink.aim old slots None
  pub brings : (x : List ℕ) → IsCutOff cutter size x
      → Brings (course cutter) cutter.sink.aim now.sink.aim (part_at cutter size x cutter.sink.place)
      (part_at cutter size x now.sink.place) (effect visible old slots) None
  pub leads : (x : List ℕ) → IsCutOff cutter size x → IsCutOff now size x

pub ends_none : {visible : Bool} {cutter : CutterState} {size : ℕ} {slots : List Slot} → IsAimed cutter.sink.aim slots
    → Ending visible cutter size slots slots cutter
ends_none ready = search (rules, stays_none, brings_none)

cut_as : {cutter next : CutterState} {x : List ℕ} {from to : CutUp} → next.chunks ≡ cutter.chunks
    → course next ≡ course cutter → next.at ≡ cutter.at → next.is_within ≡ cutter.is_within
    → HasCut cutter x from → Carries next.sink to → HasCut next x to
cut_as chunks same at within has carries = grind (arith, common_steps)

module _ {visible : Bool} {cutter now : CutterState} {size : ℕ} {old slots : List Slot}
    (whole : cutter.is_within ≡ true → size ≤ cutter.at) (so_far : Ending visible cutter size old slots now)
    (less : now.sink.place < now.chunks.count)
    (ends : chunk_start now.chunks.count size (now.sink.place + 1) ≤ now.at) where
  has_ended : {x : List ℕ} → IsCutOff now size x
      → chunk_start now.chunks.count size (now.sink.place + 1) ≤ passed now.chunks size x
  has_ended {x} so = grind (arith, common_steps, passed_all)

  next_gives : {next : SinkState} {new : List Slot} {fault : Option Fault}
      → Changes now.sink next with_full (effect visible slots new) fault → (x : List ℕ) → IsCutOff cutter size x
      → Gives (course cutter) now.sink next (cut_before cutter.chunks size x now.sink.place)
      (cut_before cutter.chunks size x (now.sink.place + 1)) (effect visible slots new) fault
  next_gives went x so = let mid = so_far.leads x so in
      rw (so_far.stays.course, so_far.chunks) at (rw (full_next now.chunks size x now.sink.place mid.begun) at
      (went.gives _ (mid.cut.carries, name_of _ _ _ mid.cut.all less)))

  next_stays : {next : SinkState} {new : List Slot} {fault : Option Fault}
      → Changes now.sink next with_full (effect visible slots new) fault
      → Stays (course cutter) cutter.sink.aim next.aim old new fault
  next_stays went = grind (arith, common_steps)

  pub ends_next : {next : CutterState} {new : List Slot} → next.chunks ≡ now.chunks → next.at ≡ now.at
      → next.is_within ≡ now.is_within → next.sink.place ≡ now.sink.place + 1
      → Changes now.sink next.sink with_full (effect visible slots new) None → Ending visible cutter size old new next
  ends_next {next} chunks at within place went = record {
    chunks = chunks ∙ so_far.chunks;
    at = at ∙ so_far.at;
    within = within ∙ so_far.within;
    stays = next_stays went;
    brings = λ x so. rw place (brings_then (so_far.brings x so) (next_gives went x so).brings);
    leads = λ x so. let mid = so_far.leads x so in
        let same : cut_before cutter.chunks size x (now.sink.place + 1) ≡ cut_before next.chunks size x next.sink.place =
        rw (chunks, so_far.chunks, place) refl in record {
          cut = cut_as chunks went.stays.course at within mid.cut (subst (Carries next.sink) same (next_gives went x so).carries);
          fits = mid.fits;
          few = rw (chunks, place) (omega arith);
          before = rw (chunks, place) (has_ended mid);
          begun = rw (chunks, place) (before_later now.chunks size x (now.sink.place + 1) _ (omega arith) mid.begun);
        };
  }

  pub ends_stopped : {next : CutterState} {new : List Slot} {why : Fault} → next.chunks ≡ now.chunks
      → next.at ≡ now.at → Changes now.sink next.sink with_full (effect visible slots new) (Some why)
      → EndsFull cutter next size (effect visible old new) (Some why)
  ends_stopped chunks at stopped = record {
    chunks = chunks ∙ so_far.chunks;
    at = at ∙ so_far.at;
    stays = next_stays stopped;
    brings = λ x so. let mid = so_far.leads x so in
        let is = ended_after now.chunks size x now.sink.place less (le-leb _ _ (has_ended mid)) in
        let past : now.sink.place + 1 ≤ ended now.chunks size x = omega (arith, is) in
        let later = before_later now.chunks size x (now.sink.place + 1) _ (omega arith) mid.begun in
        brings_wider (rw so_far.chunks at (ended_begins (course cutter) now.chunks size x (now.sink.place + 1) (some_in mid.cut) mid.fits past later))
        (brings_then (so_far.brings x so) (next_gives stopped x so).brings);
    leads = λ x so. tt;
  }

-- no further chunk has ended
pub ends_all : {visible : Bool} {cutter now : CutterState} {size : ℕ} {old slots : List Slot}
    → Ending visible cutter size old slots now
    → ((x : List ℕ) → IsCutOff now size x → now.sink.place < now.chunks.count
    → passed now.chunks size x < chunk_start now.chunks.count size (now.sink.place + 1))
    → EndsFull cutter now size (effect visible old slots) None
ends_all {now = now} {size} so_far last = record {
  chunks = so_far.chunks;
  at = so_far.at;
  stays = so_far.stays;
  brings = λ x so. rw (rw so_far.chunks at (same (so_far.leads x so))) (so_far.brings x so);
  leads = λ x so. let mid = so_far.leads x so in record {
    cut = subst (HasCut now x) (sym (same mid)) mid.cut;
    fits = mid.fits;
  };
} where
  same : {x : List ℕ} → IsCutOff now size x
      → chunks_within now.chunks size x ≡ cut_before now.chunks size x now.sink.place
  same {x} so = within_are x (some_in so.cut) so.fits (record { within = so.few; before = so.before; next = last x so })

-- none does if a line is open before the end of its chunk
pub ends_open : {visible : Bool} {cutter : CutterState} {size : ℕ} {slots : List Slot} → IsAimed cutter.sink.aim slots
    → cutter.is_within ≡ true → cutter.at < size → EndsFull cutter cutter size (effect visible slots slots) None
ends_open {cutter = cutter} {size} ready within short = ends_all (ends_none ready) (λ x so less. omega (
  arith,
  passed_open cutter.chunks size x (omega (arith, so.cut.at)),
  open_early cutter.chunks.unit cutter.chunks.delim _ x so.begun (sym so.cut.within ∙ within),
))

-- nor before the end of the chunk that was begun
pub ends_so : {visible : Bool} {cutter now : CutterState} {size : ℕ} {old slots : List Slot}
    → Ending visible cutter size old slots now
    → (now.sink.place < now.chunks.count → now.at < chunk_start now.chunks.count size (now.sink.place + 1))
    → EndsFull cutter now size (effect visible old slots) None
ends_so {now = now} {size} so_far last = ends_all so_far
    (λ x so less. omega (arith, last less, so.cut.at, passed_few now.chunks size x so.fits))

pub ends_short : {visible : Bool} {cutter : CutterState} {size : ℕ} {slots : List Slot} → IsAimed cutter.sink.aim slots
    → cutter.at < chunk_start cutter.chunks.count size (min (cutter.sink.place + 1) cutter.chunks.count)
    → EndsFull cutter cutter size (effect visible slots slots) None
ends_short {cutter = cutter} {size} ready short = ends_so (ends_none ready)
    (λ less. subst (λ place. cutter.at < chunk_start cutter.chunks.count size place) (omega arith) short)

-- A text goes on, all of it with the chunk that was begun

pub cut_of : (chunks : Chunks) (size : ℕ) (x : List ℕ) → length x ≤ size
    → chunks_of chunks size x ≡ chunks_within chunks size x
cut_of chunks size x within = grind (arith, common_steps)

rest_more : (chunks : Chunks) (size : ℕ) (x y : List ℕ) (place : ℕ) → length (x ++ y) ≤ size
    → chunk_start chunks.count size place ≤ passed chunks size x
    → cut_before chunks size (x ++ y) place ≡ with_rest y (cut_before chunks size x place)
rest_more chunks size x y place within reached = grind (arith, common_steps, full_stays, before_stays, drop-append-le, begun_within)

-- A stretch is cut off

pub begin_so : (on : Course) (low high : CutUp) → Goes low high → Begins (part_on on low) (part_on on high)
begin_so (in_files filing elide) low high goes = part_begins filing _ _ (shares_on elide Open (refl, refl) goes)
begin_so (in_output chunk) low high goes = out_begins _ _ (piece_on _ goes)

-- what is there of a text begins what is there once it goes on
pub so_grows : (on : Course) (chunks : Chunks) (size : ℕ) (x y : List ℕ) → 0 < chunks.count → length (x ++ y) ≤ size
    → Begins (part_on on (chunks_within chunks size x)) (part_on on (chunks_within chunks size (x ++ y)))
so_grows on chunks size x y some within =
    rw (← cut_of chunks size x (omega (arith, length-append x y)), ← cut_of chunks size (x ++ y) within)
    (begin_so _ _ _ (chunks_go_on _ _ x y some))

-- what is known of a text of which so much was cut off, if more comes than its size is long
pub record Place (cutter : CutterState) (size : ℕ) (x : List ℕ) : Type 0 where
  pub short : length x < size
  pub some : 0 < cutter.chunks.count
  pub is : ended cutter.chunks size x ≡ cutter.sink.place
  pub less : cutter.sink.place < cutter.chunks.count
  pub early : open_from cutter.chunks.unit cutter.chunks.delim x < chunk_start cutter.chunks.count size
      (cutter.sink.place + 1)

pub placed_at : {cutter : CutterState} {size : ℕ} {x : List ℕ} → IsCut cutter size x
    → ended cutter.chunks size x ≡ cutter.sink.place
placed_at {cutter} {size} {x} is = grind (arith, common_steps, length-map-range_with_len)

pub place_of : {cutter : CutterState} {size : ℕ} {x : List ℕ} (y : List ℕ) → IsCut cutter size x → 0 < length y
    → length (x ++ y) ≤ size → Place cutter size x
place_of {cutter} {size} {x} y is some within =
    grind (arith, common_steps, length-append, some_in, placed_at, ended_is, cases_lt, start_past, passed_open, open_within)

-- the end of the chunk that was begun
abbrev pub end_so : CutterState → ℕ → ℕ
end_so cutter size = chunk_start cutter.chunks.count size (min (cutter.sink.place + 1) cutter.chunks.count)

end_here : {cutter : CutterState} {size : ℕ} {x : List ℕ} → Place cutter size x
    → end_so cutter size ≡ chunk_start cutter.chunks.count size (cutter.sink.place + 1)
end_here {cutter} at = grind (arith, common_steps)

-- what is cut off next stands before the end of the chunk that was begun
all_within : {cutter : CutterState} {size : ℕ} {x : List ℕ} (text : List ℕ) → IsCut cutter size x → Place cutter size x
    → before_chunk cutter.chunks size (ended cutter.chunks size x + 1) (x ++ cut_to cutter (end_so cutter size) text)
    ≡ x ++ cut_to cutter (end_so cutter size) text
all_within {cutter} {size} {x} text is at = grind (arith, common_steps, ended_is, end_here, piece_all)

-- bytes were cut off, and the chunks that have all then end
pub record Cutting (cutter mid : CutterState) (y : List ℕ) : Type 0 where
  pub some : 0 < length y
  pub chunks : mid.chunks ≡ cutter.chunks
  pub place : mid.sink.place ≡ cutter.sink.place
  pub course : course mid ≡ course cutter
  pub at : mid.at ≡ cutter.at + length y
  pub within : mid.is_within ≡ is_within cutter.chunks.unit cutter.chunks.delim y

pub has_cut : {cutter next : CutterState} {x : List ℕ} (y : List ℕ) {from to : CutUp} → next.chunks ≡ cutter.chunks
    → course next ≡ course cutter → next.at ≡ cutter.at + length y
    → next.is_within ≡ is_within cutter.chunks.unit cutter.chunks.delim y → 0 < length y
    → HasCut cutter x from → Carries next.sink to → HasCut next (x ++ y) to
has_cut {cutter} {x = x} y chunks stays at within some has carries = grind (arith, common_steps, length-append, within_last)

-- a text to which nothing was added since the chunks that had all ended
off_of : {cutter : CutterState} {size : ℕ} {x : List ℕ} → IsCut cutter size x → IsCutOff cutter size x
off_of {cutter} {size} {x} is = grind (arith, common_steps, placed_at, ended_is, within_are, some_in, before_next)

module _ {cutter : CutterState} {size : ℕ} (text : List ℕ) {x y : List ℕ}
    (is : y ≡ cut_to cutter (end_so cutter size) text) (some : 0 < length y) (has : IsCut cutter size x)
    (within : length (x ++ y) ≤ size) where
  all_begun : before_chunk cutter.chunks size (cutter.sink.place + 1) (x ++ y) ≡ x ++ y
  all_begun = grind (arith, common_steps, place_of, all_within)

  rest_gives : {visible : Bool} {next : SinkState} {old wet : List Slot} {fault : Option Fault}
      → Changes cutter.sink next (with_rest y) (effect visible old wet) fault
      → Gives (course cutter) cutter.sink next (chunks_within cutter.chunks size x)
      (cut_before cutter.chunks size (x ++ y) cutter.sink.place) (effect visible old wet) fault
  rest_gives {visible} {next} {old} {wet} {fault} changes = let off = off_of has in let place = place_of y has some within in
      let ends = rw (placed_at has) at (ended_is cutter.chunks size x) in
      subst (λ cut. Gives (course cutter) cutter.sink next (chunks_within cutter.chunks size x) cut (effect visible old wet) fault)
      (ap (with_rest y) (within_are x (some_in has.cut) has.fits ends)
      ∙ sym (rest_more cutter.chunks size x y cutter.sink.place within off.before))
      (changes.gives _ (has.cut.carries, name_of _ _ _ has.cut.all place.less))

  off_after : {visible : Bool} {mid : CutterState} {old wet : List Slot} → Cutting cutter mid y
      → Changes cutter.sink mid.sink (with_rest y) (effect visible old wet) None → IsCutOff mid size (x ++ y)
  off_after {mid = mid} step changes = let off = off_of has in
      let same : cut_before cutter.chunks size (x ++ y) cutter.sink.place ≡ cut_before mid.chunks size (x ++ y) mid.sink.place =
      rw (step.chunks, step.place) refl in record {
        cut = has_cut y step.chunks step.course step.at step.within some has.cut (subst (Carries mid.sink) same (rest_gives changes).carries);
        fits = within;
        few = rw (step.chunks, step.place) off.few;
        before = rw (step.chunks, step.place)
            (omega (arith, off.before, passed_grows cutter.chunks size x y));
        begun = rw (step.chunks, step.place) all_begun;
      }

pub cuts_on : {visible : Bool} {cutter mid next : CutterState} {size : ℕ} (text : List ℕ) {y : List ℕ}
    {old wet new : List Slot} (fault : Option Fault) → y ≡ cut_to cutter (end_so cutter size) text
    → Cutting cutter mid y → Changes cutter.sink mid.sink (with_rest y) (effect visible old wet) None
    → EndsFull mid next size (effect visible wet new) fault → CutsMore cutter next size y (effect visible old new) fault
cuts_on text {y} fault is step changes ends = record {
  chunks = ends.chunks ∙ step.chunks;
  bound = omega arith;
  stays = stays_then changes.stays (rw step.course at ends.stays);
  brings = λ x has within. brings_then (rest_gives text is step.some has within changes).brings
      (rw (step.course, step.chunks, step.place) at (ends.brings (x ++ y) (off_after text is step.some has within step changes)));
  leads = λ x has within. ends.leads (x ++ y) (off_after text is step.some has within step changes);
}

-- a fault came as a stretch was written
pub cuts_not : {cutter next : CutterState} {size : ℕ} (text : List ℕ) {y : List ℕ} {outs : Effect}
    {why : Fault} → y ≡ cut_to cutter (end_so cutter size) text → 0 < length text → next.chunks ≡ cutter.chunks
    → next.at ≡ cutter.at → Changes cutter.sink next.sink (with_rest y) outs (Some why)
    → CutsMore cutter next size y outs (Some why)
cuts_not {cutter = cutter} {size = size} text {y} is has_text chunks at stopped = record {
  chunks = chunks;
  bound = omega arith;
  stays = stopped.stays;
  brings = λ x has within.
      let some : 0 < length y = rw is (begun_some cutter.chunks.unit cutter.chunks.delim _ text (omega arith) has_text) in
      brings_wider (ended_begins (course cutter) cutter.chunks size (x ++ y) cutter.sink.place (some_in has.cut) within
      (omega (arith, placed_at has, ended_grows cutter.chunks size x y)) (all_begun text is some has within))
      (rest_gives text is some has within stopped).brings;
  leads = λ x has within. tt;
}

-- on the way to all of a text
pub cuts_all : {cutter next : CutterState} {size : ℕ} (text : List ℕ) {y : List ℕ}
    {outs : Effect} {why : Fault} → y ≡ cut_to cutter (end_so cutter size) text
    → CutsMore cutter next size y outs (Some why)
    → CutsMore cutter next size text outs (Some why)
cuts_all {cutter = cutter} {size = size} text {y} {why = why} is cuts =
    let (rest, both) : (rest : List ℕ) × (text ≡ y ++ rest) = rw is (begun_begins cutter.chunks.unit cutter.chunks.delim _ text) in
    let all : (x : List ℕ) → (x ++ y) ++ rest ≡ x ++ text = λ x. append_assoc x y rest ∙ ap (λ more. x ++ more) (sym both) in record {
      chunks = cuts.chunks;
      bound = omega (arith, ap length both, length-append y rest);
      stays = cuts.stays;
      brings = λ x has within. brings_wider (rw (all x) at
          (so_grows (course cutter) cutter.chunks size (x ++ y) rest (some_in has.cut) (rw (all x) within)))
          (cuts.brings x has (omega (arith, ap length (all x), length-append (x ++ y) rest)));
      leads = λ x has within. tt;
    }

-- one byte less doesn't complete what is written

not_yet : (chunks : Chunks) (size place : ℕ) (on : Course) (z : List ℕ) → length z < size
    → open_from chunks.unit chunks.delim z < chunk_start chunks.count size (place + 1) → is_past_at on place ≡ false
    → (work_on on chunks (Some size)).is_complete z ≡ false
not_yet chunks size place (in_files filing elide) z short early past = le-ltb _ _ (omega arith)
not_yet chunks size place (in_output chunk) z short early past = lt-leb _ _
    (omega (
      arith,
      passed_open chunks size z short,
      start_grows chunks.count size (place + 1) (chunk + 1)
          (omega (arith, ltb-false _ _ past)),
    ))

pub needed_in : {cutter : CutterState} {size : ℕ} {x : List ℕ} (text : List ℕ) (n : ℕ)
    → is_past_on cutter.sink ≡ false → 0 < n → n ≤ length text → take n text ≡ cut_to cutter (end_so cutter size) text
    → IsCut cutter size x → length (x ++ text) ≤ size
    → IsOpen cutter size (x ++ take (n - 1) text)
needed_in {cutter} {size} {x} text n going some few is has within = let chunks = cutter.chunks in
    let place = place_of _ has (omega arith) within in
    let z = x ++ take (n - 1) text in
    let last = drop (n - 1) (take n text) in
    let front : take (n - 1) (take n text) ≡ take (n - 1) text = take-take (n - 1) n text (omega arith) in
    let both : z ++ last ≡ x ++ take n text =
    rw (append_assoc x (take (n - 1) text) last, ← front, take-append-drop (n - 1) (take n text)) refl in
    let all : before_chunk chunks size (ended chunks size x + 1) (z ++ last) ≡ z ++ last = rw (both, is) (all_within _ has place) in
    let one : length last ≡ 1 = omega (arith, length-drop (n - 1) (take n text), length-take n text) in
    not_yet _ _ _ _ z
    (omega (arith, length-append x (take (n - 1) text), length-take (n - 1) text, length-append x text))
    (rw place.is at (begins_early _ _ _ z _ all (omega arith))) going

-- if a stretch was written
pub cutting : {cutter mid : CutterState} {end n : ℕ} (text : List ℕ) {outs : Effect}
    → WritesTo cutter mid end text outs (Ok n) → Cutting cutter mid (take n text)
cutting {n = n} text writes = grind (arith, common_steps)

-- what was written of a text goes with the chunk that was begun, and what is full has ended
pub steps_so : {visible : Bool} {cutter mid next : CutterState} {size n : ℕ} (text : List ℕ) {old wet new : List Slot}
    → WritesTo cutter mid (end_so cutter size) text (effect visible old wet) (Ok n)
    → EndsFull mid next size (effect visible wet new) None
    → CutsStretch cutter next size text (effect visible old new) (Ok n)
steps_so {n = n} text writes ends = let is = writes.count.2 in (
  writes.count.0,
  writes.count.1,
  omega arith,
  cuts_on _ _ is (cutting _ writes) (rw (← is) at writes.changes) ends,
  λ going x within has. needed_in _ n going writes.count.0 writes.count.1 is within has,
)

-- nothing is full before that chunk's end
pub steps_short : {cutter next : CutterState} {size n : ℕ} (text : List ℕ) {outs : Effect}
    → WritesTo cutter next (end_so cutter size) text outs (Ok n)
    → next.at < end_so cutter size → CutsStretch cutter next size text outs (Ok n)
steps_short {size = size} text writes short = steps_so _ writes
    (ends_short writes.changes.stays.ready (rw (writes.chunks, writes.place) short))

-- Stretch after stretch

pub cuts_nothing : {visible : Bool} {cutter : CutterState} {size : ℕ} {slots : List Slot}
    → IsAimed cutter.sink.aim slots
    → CutsMore cutter cutter size [] (effect visible slots slots) None
cuts_nothing {visible} {cutter} {size} {slots} ready = search (rules, stays_none, append-nil, brings_none)

pub cuts_again : {visible : Bool} {cutter mid next : CutterState} {size : ℕ} (first more : List ℕ)
    {old wet new : List Slot} (fault : Option Fault) → CutsMore cutter mid size first (effect visible old wet) None
    → CutsMore mid next size more (effect visible wet new) fault
    → CutsMore cutter next size (first ++ more) (effect visible old new) fault
cuts_again {visible} {cutter} {mid} {next} {size} first more {wet = wet} {new} fault one other = record {
  chunks = other.chunks ∙ one.chunks;
  bound = omega (arith, length-append first more);
  stays = stays_then one.stays (rw one.stays.course at other.stays);
  brings = λ x has within. brings_then (one.brings x has (low x within))
      (rw (one.stays.course, one.chunks, append_assoc x first more) at
      (other.brings (x ++ first) (one.leads x has (low x within)) (rw (append_assoc x first more) within)));
  leads = λ x has within. rw (append_assoc x first more) at
      (other.leads (x ++ first) (one.leads x has (low x within)) (rw (append_assoc x first more) within));
} where
  low : (x : List ℕ) → length (x ++ (first ++ more)) ≤ size → length (x ++ first) ≤ size
  low x within = omega (arith, length-append x (first ++ more), length-append first more, length-append x first)

-- what was cut off of a text, and what is left of it
pub record CutsAway (visible : Bool) (cutter : CutterState) (size : ℕ) (text left : List ℕ) (old slots : List Slot)
    (now : CutterState) : Type 0 where
  pub done : List ℕ
  pub both : text ≡ done ++ left
  pub cuts : CutsMore cutter now size done (effect visible old slots) None
  pub at : now.at ≡ cutter.at + length done
  pub start : ((now ≡ cutter) × (done ≡ [])) ⊎ (is_past_on cutter.sink ≡ false)
  pub needed : (done ≡ []) ⊎ ((x : List ℕ) → IsCut cutter size x → length (x ++ text) ≤ size
      → IsNeeded (said_work cutter size).is_complete 1 (x ++ done))

pub away_none : {visible : Bool} {cutter : CutterState} {size : ℕ} {text : List ℕ} {slots : List Slot}
    → IsAimed cutter.sink.aim slots → CutsAway visible cutter size text text slots slots cutter
away_none {text = text} ready = record { done = []; both = refl; cuts = cuts_nothing ready; at = omega arith; start = inl (refl, refl); needed = inl refl }

module _ {visible : Bool} {cutter now : CutterState} {size : ℕ} {text left : List ℕ} {old slots : List Slot}
    (so_far : CutsAway visible cutter size text left old slots now) where
  pub away_more : {next : CutterState} {rest : List ℕ} {n : ℕ} {new : List Slot}
      → (0 < n) × (n ≤ length left) × (next.at ≡ now.at + n) × CutsMore now next size (take n left)
      (effect visible slots new) None
      × (is_past_on now.sink ≡ false → (x : List ℕ) → IsCut now size x → length (x ++ left) ≤ size
      → IsOpen now size (x ++ take (n - 1) left)) → is_past_on now.sink ≡ false → rest ≡ drop n left
      → CutsAway visible cutter size text rest old new next
  away_more {next} {rest} {n} (some, within, at, step, going) not_past is = record {
    done = so_far.done ++ take n left;
    both = rw (is, append_assoc so_far.done (take n left) (drop n left), take-append-drop n left) so_far.both;
    cuts = cuts_again _ _ _ so_far.cuts step;
    at = omega (arith, length-append so_far.done (take n left), length-take n left);
    start = elim so_far.start [
      | inl (same, none) ↦ inr (rw same at not_past)
      | inr going ↦ inr going
    ];
    needed = inr (λ x has fits. let z = x ++ so_far.done in
        let all : length (z ++ left) ≤ size =
        omega (
          arith,
          ap length so_far.both,
          length-append x text,
          length-append so_far.done left,
          length-append z left,
          length-append x so_far.done,
        ) in
        let here = so_far.cuts.leads x has (omega (arith, length-append z left)) in
        let front : take (n - 1) (take n left) ≡ take (n - 1) left = take-take (n - 1) n left (omega arith) in
        let last = drop (n - 1) (take n left) in
        inr (
          z ++ take (n - 1) left,
          last,
          rw (append_assoc z (take (n - 1) left) last, ← front, take-append-drop (n - 1) (take n left))
              (sym (append_assoc x so_far.done (take n left))),
          omega (arith, length-drop (n - 1) (take n left), length-take n left),
          rw (so_far.cuts.stays.course, so_far.cuts.chunks) at (going not_past z here all),
        ));
  }

  pub away_stops : {next : CutterState} {new : List Slot} {why : Fault}
      → CutsMore now next size left (effect visible slots new) (Some why)
      → CutsMore cutter next size text (effect visible old new) (Some why)
  away_stops {why = why} stops = rw so_far.both (cuts_again _ _ _ so_far.cuts stops)

  pub away_so : (piece : List ℕ) (own : ℕ) {count : ℕ} → own ≡ min (length piece) (size - cutter.at)
      → text ≡ take own piece → count ≡ length left + (length piece - own)
      → (length left ≡ 0) ⊎ (is_past_on now.sink ≡ true) → CutsAs cutter now size piece count (effect visible old slots)
  away_so piece own {count} is text_is count_is ends = record {
    few = omega (arith, long, is, count_is);
    at = omega (arith, so_far.at, long, is, count_is);
    fits = λ fits. omega arith;
    still = λ past. elim so_far.start [
      | inl (same, none) ↦ omega (arith, long, is, ap length none, count_is)
      | inr going ↦ absurd (false≢true (sym going ∙ past))
    ];
    cuts = rw e so_far.cuts;
    needed = elim so_far.needed [
      | inl none ↦ inl (omega (arith, long, is, ap length none, count_is))
      | inr needed ↦ inr (λ x has. rw e (needed x has (omega (arith, has.fits, has.cut.at, length-append x text, all, is))))
    ];
    enough = elim ends [
      | inl none ↦ elim (cases_lt own (length piece)) [
        | inl less ↦ inr (inr (omega (arith, so_far.at, long, none, is, less)))
        | inr all ↦ inl (omega arith)
      ]
      | inr past ↦ inr (inl past)
    ];
  } where
    all : length text ≡ own
    all = omega (arith, ap length text_is, length-take own piece)

    long : length so_far.done + length left ≡ own
    long = omega (arith, all, ap length so_far.both, length-append so_far.done left)

    e : take (length piece - count) piece ≡ so_far.done
    e = let n : length piece - count ≡ length so_far.done = omega (arith, long, is, count_is) in
        ap (λ n. take n piece) n ∙ sym
        (ap (take (length so_far.done)) text_is ∙ take-take (length so_far.done) own piece (omega arith))
        ∙ ap (take (length so_far.done)) so_far.both ∙ take_at so_far.done left (length so_far.done) refl
