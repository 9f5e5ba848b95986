-- What goes to the files of chunks, or to standard output if only one chunk is written.
use Rattle.std.proofs.Common.{rules}
use Rattle.std.proofs.lemmas.Grind.{common_steps}
use Rattle.std.proofs.{
  lemmas.{Bool.false≢true, List.{append-nil, length-append}},
  Common.{◌≡◌, ℕ, ◌+◌, ◌≤◌, zero, suc, Bool, true, false, List, [], ◌∷◌, ◌++◌, length, get_or, cond, eqb, Option},
  Common.{Some, None, Result, Ok, Err, IfSome, IfNone, IfErr, IsTrue, inl, refl, sym, ◌∙◌, ap, subst, arith},
}
use Rattle.engine_core.specs.{
  Draft.{Draft, Manner, draft_part, made_of, with_bytes, with_next},
  FileWriter.{At, Goes, IsCurrent, IsReady, IsWrite, KeepsOrBreaks, Leaves, Writes, WriterState, is_file},
  Written.{Begins, FilesBegin, Output, OutputsAt, Written, gets_bytes, only_out},
  inner.Write.Wrote,
  InTurn.{IsThere, StoppedInTurn, fault_in},
  declared.file_writer.{
    Current.{Current, TheVariants.{Skipped, Due, File, Unopened}},
    Opening.{Opening, TheVariants.{Late, AtOnce, Never}},
    Tells.Tells,
  },
}
use Rattle.ports_core.specs.{
  Slot.{Effect, effect, Slot, is_writable},
  Write.BrokeAfter,
  declared.fault.Fault.{Fault, TheVariants.{Verdict, Write}},
  declared.verdict.Verdict.TheVariants.Suffixes,
}
use Rattle.engine_core.proofs.{
  FileWriterLemmas.{in_any, leaves_again, reaches_again, reaches_as, stops_wider, where_well, where_short},
  WrittenLemmas.{out_begins, out_cut, out_more, part_begins_itself, part_trans, turn_between},
  WrittenSteps.there_from,
  ShareLemmas.{bytes_begin, next_begins},
}
use Rattle.split_core.specs.{
  ChunkWork.{draft_by, kept},
  Chunks.pieces_in,
  ChunkerState.{AimState, Course, IsAimed, course_of, filing_by, in_files, in_output, to_files, part_on, to_output},
  ChunkerState.whole_on,
  Parts.CutUp,
  Split.{Filing, TellsNoSizes, manner_of},
  inner.Brings.{AtAim, Brings, Changes, EndsAll, Files, CarriesOn, IsOf, Stays, begun_by, empties_by, ends_by},
  inner.Brings.{manner_on, with_full, with_rest},
  laws.ChunkWorkLaws.length-kept,
}
use Rattle.split_core.proofs.FilesLemmas.{named_before}
use Rattle.engine_core.specs.inner.Write as short

-- The files

-- names run out for what is begun alone, and a draft that ends late has none there
pub files_go : {writer next : WriterState} {change : Draft → Draft} {outs : Effect}
    {fault : Option Fault}
    → ((manner : Manner) (draft : Draft) → Writes manner writer draft
    → manner.has_name (length (change draft).ended) ≡ false
    → made_of (change draft).opening (change draft).bytes ≡ (change draft).bytes ∷ []
    → manner.has_name (length draft.ended) ≡ false)
    → Goes writer next change outs fault → Files writer next change outs fault
files_go {fault = fault} named goes = grind (arith, common_steps)

-- the same change in other words
pub files_as : {writer next : WriterState} {change other : Draft → Draft} {outs : Effect}
    {fault : Option Fault}
    → ((draft : Draft) → IsCurrent writer.tells draft.opening draft.bytes writer.current → change draft ≡ other draft)
    → Files writer next change outs fault → Files writer next other outs fault
files_as {next = next} {fault = fault} same files = record {
  leaves = files.leaves;
  reaches = λ manner draft writes. reaches_as refl (ap (draft_part manner) (sym (same draft writes.current))) (files.reaches manner draft writes);
  named = files.named;
  writes = where_well fault files.writes (λ later manner draft writes. subst (Writes manner next) (same draft writes.current) (later manner draft writes));
}

pub files_again : {visible : Bool} {one two three : WriterState} {first second : Draft → Draft} (both : Draft → Draft)
    {old mid new : List Slot} {fault : Option Fault} → ((draft : Draft) → second (first draft) ≡ both draft)
    → ((manner : Manner) (draft : Draft) → Begins (draft_part manner draft) (draft_part manner (first draft)))
    → IfSome fault (λ why. why ≡ Verdict Suffixes → (manner : Manner) (draft : Draft) → Writes manner two draft → ⊥)
    → Files one two first (effect visible old mid) None → Files two three second (effect visible mid new) fault
    → Files one three both (effect visible old new) fault
files_again {visible} {three = three} {first} {second} both {new = new} {fault} is begins never before after = record {
  leaves = leaves_again before.leaves after.leaves;
  reaches = λ manner draft writes. reaches_again (begins manner draft) (before.reaches manner draft writes)
      (reaches_as refl (ap (draft_part manner) (sym (is draft))) (after.reaches manner (first draft) (before.writes manner draft writes)));
  named = where_short _ never (λ none manner draft writes. absurd (none manner (first draft) (before.writes manner draft writes)));
  writes = where_well fault after.writes (λ more manner draft writes. subst (Writes manner three) (is draft)
      (more manner (first draft) (before.writes manner draft writes)));
}

pub files_wider : {writer next : WriterState} {low : Draft → Draft} (high : Draft → Draft)
    {outs : Effect} {fault : Fault}
    → ((manner : Manner) (draft : Draft) → Begins (draft_part manner (low draft)) (draft_part manner (high draft)))
    → Files writer next low outs (Some fault)
    → Files writer next high outs (Some fault)
files_wider high begins stopped = record {
  leaves = stopped.leaves;
  reaches = λ manner draft writes. stops_wider (stopped.reaches manner draft writes) (begins manner draft);
  named = stopped.named;
  writes = tt;
}

-- if no file is open, what is begun has none
pub none_made : (tells : Tells) (opening : Opening) (bytes : List ℕ) (current : Current) → is_file current ≡ false
    → IsCurrent tells opening bytes current → made_of opening bytes ≡ []
none_made tells opening bytes Skipped none now = rw now refl
none_made tells opening bytes Due none now = rw (now.0, now.1) refl
none_made tells opening bytes (File slot size) none now = absurd (cc)
none_made tells opening bytes Unopened none now = absurd now

pub emptied : {writer next : WriterState} (elide : Bool) {outs : Effect} {fault : Option Fault}
    → elide ≡ false → is_file writer.current ≡ false
    → Goes writer next (with_next AtOnce) outs fault
    → Files writer next (empties_by elide) outs fault
emptied {writer = writer} elide kept none goes = rw kept (files_as
    (λ draft now. let is = none_made _ _ _ _ none now in sym (ap (λ made. begun_by made draft) is))
    (files_go (λ manner draft writes nameless begun. let is = none_made _ _ _ _ none writes.current in
    rw (ap (λ made. draft.ended ++ made) is ∙ append-nil draft.ended) at nameless) goes))

late_after : (elide : Bool) (draft : Draft) → with_next Late (empties_by elide draft) ≡ ends_by elide draft
late_after true draft = refl
late_after false draft = grind (arith, common_steps)

empties_begin : (elide : Bool) (manner : Manner) (draft : Draft)
    → Begins (draft_part manner draft) (draft_part manner (empties_by elide draft))
empties_begin true manner draft = part_begins_itself _
empties_begin false manner draft = by (made_of draft.opening draft.bytes) where
  by : (made : List (List ℕ)) → Begins (draft_part manner draft) (draft_part manner (begun_by made draft))
  by [] = next_begins manner AtOnce draft
  by (file ∷ files) = part_begins_itself _

pub file_ends : {visible : Bool} {writer mid next : WriterState} (elide : Bool) {old between new : List Slot}
    {fault : Option Fault} → Files writer mid (empties_by elide) (effect visible old between) None
    → Goes mid next (with_next Late) (effect visible between new) fault
    → Files writer next (ends_by elide) (effect visible old new) fault
file_ends elide {fault = fault} emptied goes = files_again (ends_by elide) (late_after elide) (λ manner draft. empties_begin elide manner draft)
    (where_short fault goes.short (λ ran manner draft writes. let none : [] ≡ [] ∷ [] = (ran manner draft writes).begun in cc)) emptied
    (files_go (λ manner draft writes nameless none. absurd (cc)) goes)

pub file_stops : {writer next : WriterState} (elide : Bool) {outs : Effect} {fault : Fault}
    → Files writer next (empties_by elide) outs (Some fault)
    → Files writer next (ends_by elide) outs (Some fault)
file_stops elide stopped = files_wider (ends_by elide)
    (λ manner draft. subst (λ high. Begins (draft_part manner (empties_by elide draft)) (draft_part manner high))
    (late_after elide draft) (next_begins manner Late (empties_by elide draft))) stopped

-- Where chunks go

filing_same : (writer next : WriterState) {old new : List Slot} {fault : Option Fault}
    → Leaves writer next old new fault → filing_by next ≡ filing_by writer
filing_same writer next leaves = cc

at_aim : (output : Output) (visible : Bool) (next : WriterState) (elide : Bool) (before : List Slot) (low : Written)
    {mid high : Written} (new : List Slot) (fault : Option Fault) → mid ≡ high
    → IsThere output visible (At visible next before mid new) before low mid new fault
    → IsThere output visible (AtAim visible (to_files next elide) before high new) before low high new fault
at_aim output visible next elide before low new None is at = grind (arith, common_steps)
at_aim output visible next elide before low new (Some why) is stops = rw is at stops

slots_as : {manner other : Manner} (old new : List Slot) (fault : Option Fault) → other ≡ manner
    → KeepsOrBreaks other old new fault → KeepsOrBreaks manner old new fault
slots_as old new fault same slots = rw same at slots

of_files : (filing : Filing) (elide : Bool) (fault : Option Fault) → IfSome fault (IsOf (in_files filing elide))
of_files filing elide None = tt
of_files filing elide (Some why) = tt

module _ {writer next : WriterState} {elide : Bool} {change : Draft → Draft} {outs : Effect}
    (fault : Option Fault) (ready : IsReady writer outs.old × TellsNoSizes writer.tells)
    (files : Files writer next change outs fault) where
  stays_files : Stays (in_files (filing_by writer) elide) (to_files writer elide)
      (to_files next elide) outs.old outs.new fault
  stays_files = grind (arith, common_steps, filing_same, slots_as, of_files, where_well)

  brings_files : (cut : CutUp) {high : Written} → Writes (manner_of (filing_by writer)) writer (draft_by elide cut)
      → draft_part (manner_of (filing_by writer)) (change (draft_by elide cut)) ≡ high
      → ((manner : Manner) (draft : Draft) → Begins (draft_part manner draft) (draft_part manner (change draft)))
      → IfSome fault (λ why. why ≡ Verdict Suffixes → ⊥)
      → Brings (in_files (filing_by writer) elide) (to_files writer elide) (to_files next elide)
      (part_on (in_files (filing_by writer) elide) cut) high outs fault
  brings_files cut has is begins named = search (rules, at_aim)

  -- all chunks have names
  has_names : (place : ℕ) (cut : CutUp) → CarriesOn (record { place = place; aim = to_files writer elide }) cut
      → IfSome fault (λ why. why ≡ Verdict Suffixes → ⊥)
  has_names place cut has = where_short fault files.named (λ none.
      let less : length (kept elide cut.full) ≤ place = omega (arith, length-kept elide cut.full) in
      false≢true (sym (none (manner_of (filing_by writer)) (draft_by elide cut) has.0.has) ∙ named_before writer.names.naming _ place has.1 less))

  pub files_changed : {place later : ℕ} (changes : CutUp → CutUp)
      → ((cut : CutUp) → change (draft_by elide cut) ≡ draft_by elide (changes cut))
      → ((manner : Manner) (draft : Draft) → Begins (draft_part manner draft) (draft_part manner (change draft)))
      → ((cut : CutUp) → length cut.full ≡ place → length (changes cut).full ≡ later)
      → Changes (record { place = place; aim = to_files writer elide })
      (record { place = later; aim = to_files next elide }) changes outs fault
  files_changed {place} changes is begins placed = record {
    stays = stays_files;
    gives = λ cut has. record {
      brings = brings_files cut has.0.has (ap (draft_part (manner_of (filing_by writer))) (is cut)) begins (has_names place cut has);
      carries = where_well fault files.writes (λ later. record {
        placed = placed cut has.0.placed;
        has = subst (λ filing. Writes (manner_of filing) next (draft_by elide (changes cut))) (sym (filing_same writer next files.leaves))
            (rw (is cut) at (later (manner_of (filing_by writer)) (draft_by elide cut) has.0.has));
      });
    };
  }

-- more bytes

pub files_put : {writer next : WriterState} {elide : Bool} {place : ℕ} (bytes : List ℕ)
    {outs : Effect} (fault : Option Fault)
    → IsReady writer outs.old × TellsNoSizes writer.tells → Goes writer next (with_bytes bytes) outs fault
    → Changes (record { place = place; aim = to_files writer elide })
    (record { place = place; aim = to_files next elide }) (with_rest bytes) outs fault
files_put bytes fault ready goes = files_changed fault ready (files_go (λ manner draft writes nameless begun. nameless) goes)
    (with_rest bytes) (λ cut. refl) (λ manner draft. bytes_begin manner bytes draft) (λ cut placed. placed)

-- the chunk ends

pub ends_full : (elide : Bool) (cut : CutUp) → ends_by elide (draft_by elide cut) ≡ draft_by elide (with_full cut)
ends_full true cut = grind (arith, common_steps)
ends_full false cut = grind (arith, common_steps)

pub ends_begin : (elide : Bool) (manner : Manner) (draft : Draft)
    → Begins (draft_part manner draft) (draft_part manner (ends_by elide draft))
ends_begin elide manner draft = subst (λ high. Begins (draft_part manner draft) (draft_part manner high)) (late_after _ _)
    (part_trans _ _ _ (empties_begin elide manner draft) (next_begins manner Late (empties_by elide draft)))

pub files_next : {writer next : WriterState} {elide : Bool} {place : ℕ} {outs : Effect}
    (fault : Option Fault)
    → IsReady writer outs.old × TellsNoSizes writer.tells → Files writer next (ends_by elide) outs fault
    → Changes (record { place = place; aim = to_files writer elide })
    (record { place = place + 1; aim = to_files next elide }) with_full outs fault
files_next {elide = elide} fault ready files = files_changed fault ready files with_full (ends_full elide) (ends_begin elide)
    (λ cut placed. length-append cut.full (cut.rest ∷ []) ∙ ap (λ n. n + 1) placed)

-- all end

pub whole_draft : (filing : Filing) (elide : Bool) (cut : CutUp)
    → draft_part (manner_of filing) (with_next Never (draft_by elide cut)) ≡ whole_on (in_files filing elide) cut
whole_draft filing elide cut = grind (arith, common_steps)

unnamed : (result : Result (Unit {0}) Fault) → IfErr result IsWrite
    → IfSome (fault_in result) (λ why. why ≡ Verdict Suffixes → ⊥)
unnamed (Ok done) broke = tt
unnamed (Err why) broke = grind (arith, common_steps)

pub files_end : {writer next : WriterState} {elide : Bool} {place : ℕ} {outs : Effect}
    (result : Result (Unit {0}) Fault)
    → IsReady writer outs.old × TellsNoSizes writer.tells → IfErr result IsWrite
    → Goes writer next (with_next Never) outs (fault_in result)
    → EndsAll (record { place = place; aim = to_files writer elide })
    (record { place = place; aim = to_files next elide }) outs (fault_in result)
files_end {writer = writer} {elide = elide} result ready broke goes =
    let files = files_go (λ manner draft writes nameless begun. absurd (cc)) goes in record {
      stays = stays_files _ ready files;
      brings = λ cut has. brings_files _ ready files cut has.has (whole_draft (filing_by writer) elide cut)
          (λ manner draft. next_begins manner Never draft) (unnamed result broke);
    }

-- To standard output

-- standard output gets more bytes if its chunk was begun
piece_more : (chunk place : ℕ) (bytes : List ℕ) (cut : CutUp) → length cut.full ≡ place
    → get_or (pieces_in cut) chunk [] ++ cond (eqb chunk place) bytes []
    ≡ get_or (pieces_in (with_rest bytes cut)) chunk []
piece_more chunk place bytes cut is = grind (arith, common_steps)

none_files : (files : List Slot) → FilesBegin files [] → files ≡ []
none_files [] begins = refl
none_files (file ∷ files) begins = absurd begins

-- standard output broke among these bytes
out_stops : (visible : Bool) (before : List Slot) (had more : List ℕ) {high : List ℕ} (n : ℕ) {old new : List Slot}
    → had ++ more ≡ high → OutputsAt visible before (only_out had) old → BrokeAfter visible old new 0 more n
    → StoppedInTurn gets_bytes visible before (only_out had) (only_out high) (Write 0) new
out_stops visible before had more {high} n {old} {new} is at broke = let stops = out_cut _ _ _ _ _ _ n at broke in rw (← is) (record {
  part = stops.part;
  above = stops.above;
  below = stops.below;
  place = 0;
  turn = record {
    closed = tt;
    within = omega arith;
    last = let none = ap length
        (none_files _ stops.below.files) in omega arith;
  };
  lines = tt;
  reached = stops.reached;
  outputs = stops.outputs;
  marks = stops.marks;
  from = inl refl;
})

out_there : (visible : Bool) (chunk : ℕ) (before : List Slot) (had more : List ℕ) {high : List ℕ} (old new : List Slot)
    (fault : Option Fault) → had ++ more ≡ high → OutputsAt visible before (only_out had) old
    → Wrote visible 0 more old new fault
    → IsThere gets_bytes visible (AtAim visible (to_output chunk) before (only_out high) new) before (only_out had)
    (only_out high) new fault
out_there visible chunk before had more old new None is at wrote = record { owns = tt; outputs = rw is at (out_more _ _ _ _ _ _ at wrote) }
out_there visible chunk before had more old new (Some _) is at (short.broke n cut) = out_stops _ _ _ _ n is at cut

out_slots : (visible : Bool) (chunk : ℕ) (more : List ℕ) (old new : List Slot) (fault : Option Fault)
    → IsTrue (is_writable old 0) → Wrote visible 0 more old new fault
    → KeepsOrBreaks (manner_on (in_output chunk)) old new fault × IfSome fault (IsOf (in_output chunk))
    × IfNone fault (IsTrue (is_writable new 0))
out_slots visible chunk more old new None can wrote = grind (arith, common_steps)
out_slots visible chunk more old new (Some _) can (short.broke n cut) = grind (arith, common_steps)

pub output_put : {visible : Bool} {chunk place : ℕ} (bytes : List ℕ) {old new : List Slot} (fault : Option Fault)
    → IsTrue (is_writable old 0) → Wrote visible 0 (cond (eqb chunk place) bytes []) old new fault
    → Changes (record { place = place; aim = to_output chunk }) (record { place = place; aim = to_output chunk })
    (with_rest bytes) (effect visible old new) fault
output_put {visible} {chunk} {place} bytes {old} {new} fault can wrote = let so = out_slots visible chunk _ old new fault can wrote in record {
  stays = record {
    course = refl;
    owns = λ first owns. tt;
    slots = so.0;
    only = so.1;
    output = where_well fault so.2 (λ can before. can);
    ready = so.2;
  };
  gives = λ cut has. let is = piece_more chunk place bytes cut has.0.placed in record {
    brings = record {
      named = never_named fault so.1;
      begins = out_begins _ _ (_, sym is);
      reaches = λ before at. out_there visible chunk before _ _ old new fault is at.outputs wrote;
    };
    carries = in_any fault (record { placed = has.0.placed; has = tt });
  };
} where
  never_named : (fault : Option Fault) → IfSome fault (IsOf (in_output chunk))
      → IfSome fault (λ why. why ≡ Verdict Suffixes → ⊥)
  never_named None of = tt
  never_named (Some why) of = λ is. let e : Write 0 ≡ Verdict Suffixes = sym of ∙ is in cc

-- what ends changes nothing there
pub piece_full : (full : List (List ℕ)) (chunk : ℕ) → get_or (full ++ [] ∷ []) chunk [] ≡ get_or full chunk []
piece_full [] zero = refl
piece_full [] (suc chunk) = refl
piece_full (one ∷ full) zero = refl
piece_full (one ∷ full) (suc chunk) = piece_full full chunk

pub stays_none : {aim : AimState} {slots : List Slot} → IsAimed aim slots
    → Stays (course_of aim) aim aim slots slots None
stays_none ready = grind (arith, common_steps)

pub brings_none : {visible : Bool} {on : Course} {aim : AimState} {part : Written} {slots : List Slot}
    → Brings on aim aim part part (effect visible slots slots) None
brings_none = record { named = tt; begins = part_begins_itself _; reaches = λ before at. at }

pub output_next : {visible : Bool} {chunk place : ℕ} {slots : List Slot} → IsTrue (is_writable slots 0)
    → Changes (record { place = place; aim = to_output chunk })
    (record { place = place + 1; aim = to_output chunk }) with_full (effect visible slots slots) None
output_next {chunk = chunk} can = grind (arith, common_steps, stays_none, piece_full, brings_none, length-append)

-- One after another

slots_again : (on : Course) (old mid new : List Slot) (fault : Option Fault) → KeepsOrBreaks (manner_on on) old mid None
    → KeepsOrBreaks (manner_on on) mid new fault → KeepsOrBreaks (manner_on on) old new fault
slots_again on old mid new None first second = search rules
slots_again on old mid new (Some why) first second = grind (arith, common_steps)

module _ {on : Course} {old mid new : List Slot} {fault : Option Fault} where
  pub stays_then : {one two three : AimState} → Stays on one two old mid None → Stays on two three mid new fault
      → Stays on one three old new fault
  stays_then first second = grind (arith, common_steps, slots_again, where_well)

  pub brings_then : {visible : Bool} {one two three : AimState} {low middle high : Written}
      → Brings on one two low middle (effect visible old mid) None
      → Brings on two three middle high (effect visible mid new) fault
      → Brings on one three low high (effect visible old new) fault
  brings_then {visible} first second = grind (arith, common_steps, part_trans, there_from)

-- a call that was stopped was stopped on its way to more
pub brings_wider : {on : Course} {aim next : AimState} {low middle high : Written} {outs : Effect}
    {why : Fault} → Begins middle high → Brings on aim next low middle outs (Some why)
    → Brings on aim next low high outs (Some why)
brings_wider wider brings = record {
  named = brings.named;
  begins = part_trans _ _ _ brings.begins wider;
  reaches = λ before at. turn_between _ _ _ _ _ _ _ _ _ (part_begins_itself _) (brings.reaches before at) wider;
}
