-- What the writer of files does with a file that was begun: it is made, gets its first bytes, and ends.
use Rattle.std.proofs.{
  lemmas.{Grind.common_steps, List.length-map},
  Common.{◌≡◌, ℕ, ◌+◌, ◌<◌, ◌^◌, suc, eqb, Bool, false, IsTrue, List, [], ◌∷◌, ◌++◌, length, map, decimal, Option},
  Common.{Some, None, IfSome, Result, Ok, Err, IfErr, refl, sym, ◌∙◌, ap, subst, arith, rules, append-nil},
  Common.{append_assoc, length-append},
}
use Rattle.engine_core.specs.{
  Draft.{Manner, AreNamed, Draft, share, told_before, told_of_files, part_with, part_of, opening_line, size_of_file},
  Draft.{output_of, made_of, shares_of, draft_part, with_bytes, with_next, manner_by},
  FileWriter.{WriterState, Writes, IsCounted, IsCurrent, IsLast, IsOpenAt, IsReady, IsWrite, CanTell, RunsShort},
  FileWriter.{KeepsFiles, KeepsOrBreaks, Leaves, Goes, paused},
  Names.{next_name, has_next, line_next, told_next, OpensNone, no_name},
  Written.{Begins, IsBeginning, Output, gets_lines, gets_openings, lines_for, writes},
  inner.{FileWriter.{MakesNone, Made, Appends, TellsSize, CountsOn, files_with}, Write.Wrote},
  InTurn.{AllClosed, fault_in},
  declared.file_writer.{
    Current.{Current, TheVariants.{File, Unopened, Due}},
    Opening.{Opening, TheVariants.{Never, AtOnce}},
    Tells.{Tells, TheVariants.{Nothing, Sizes, Openings}},
  },
}
use Rattle.ports_core.specs.{
  Slot.{SlotBreaks, Slot, effect, with_written, visible_of, changed_at, opened, closes, is_writable},
  declared.{
    fault.Fault.{Fault, TheVariants.Verdict},
    verdict.Verdict.TheVariants.Suffixes,
    slot.Mode.TheVariants.Fresh,
  },
}
use Rattle.engine_core.proofs.{
  WrittenLemmas.{begins_itself, nothing_begins, files_begin_themselves, part_trans},
  WrittenSteps.{Becomes, becomes_again, with_last, begun_out, file_of, line_begins, out_added, writes_to, opens},
  WrittenSteps.{falls_wider, front_begins, closes_last, closes_not, more_files},
  OpenLemmas.{IsNextName, opens_not, stops_opening},
  ShareLemmas.{stopped_part, part_grows, closed_files, ended_files, name_after, open_part, none_part, next_shares},
  ShareLemmas.part_last,
  SlotSteps.{KeepsMade, writable_within, close_rose, keeps_write, written_writable, keeps_open, writable_before},
  SlotSteps.{made_again, opened_writable, made_close, made_break, keeps_close},
  FileWriterLemmas.{tells_line, reaches_by, reaches_as, made_count, where_well, in_any, leaves_again, leaves_still},
  FileWriterLemmas.{at_file, last_file, can_tell, there_same, owned_opened, owned_unopened, make_breaks, line_breaks},
  FileWriterLemmas.{now_is, file_named, never_short, wrote_leaves, appends_leaves, counted_on, none_counted},
}
use Rattle.ports_core.proofs.{SlotLemmas.length-changed_at, WriteLemmas.none_written}
use Rattle.engine_core.specs.inner.Write as short
use Rattle.ports_core.specs.declared.fault.Fault.TheVariants as fault
use Rattle.ports_core.specs.declared.slot.State.TheVariants as state

-- A file is made of what was begun.

-- what was begun has no file, and a change makes a file of it
pub record Unwritten (draft next : Draft) : Type 0 where
  same : next.ended ≡ draft.ended
  none : made_of draft.opening draft.bytes ≡ []
  makes : made_of next.opening next.bytes ≡ next.bytes ∷ []

unmade_shares : (draft : Draft) → made_of draft.opening draft.bytes ≡ [] → length (shares_of draft) ≡ length draft.ended
unmade_shares draft none = search (rules, length-map)

module _ {manner : Manner} {writer : WriterState} {draft : Draft} (none : made_of draft.opening draft.bytes ≡ [])
    (writes : Writes manner writer draft) where
  unmade_count : writer.names.drawn ≡ length draft.ended
  unmade_count = writes.made ∙ unmade_shares _ none

  -- the name of the file that is due
  due_name : next_name writer.names ≡ name_after manner draft
  due_name = grind (arith, unmade_count)

  -- the line that standard output gets first
  line_told : line_next writer.tells writer.names ≡ told_before manner.output (name_after manner draft)
  line_told = grind (arith, due_name)

  -- all files up to the file that is due have names
  due_named : (next : Draft) → writer.names.drawn < 2 ^ 64 → Unwritten draft next → IsTrue (has_next writer.names)
      → AreNamed manner (suc (length next.ended))
  due_named next few so has = grind (arith, common_steps)

  -- the part with the file that is due
  due_part : (next : Draft) → writer.names.drawn < 2 ^ 64 → Unwritten draft next → IsTrue (has_next writer.names)
      → draft_part manner next
      ≡ with_last (begun_out manner.output (ended_files manner draft) (name_after manner draft))
      (ended_files manner draft) (file_of (name_after manner draft) next.bytes state.Open)
  due_part next few so has = grind (arith, open_part, due_named)

module _ {writer next : WriterState} {slot : ℕ} {old new : List Slot} (ready : IsReady writer old)
    (made : Made writer old new next slot) where
  made_ready : IsReady next new
  made_ready = record {
    streams = grind (arith, common_steps, length-append);
    output = grind (arith, common_steps, can_tell, writable_before);
    files = (owned_opened ready.streams made).there ready.files;
    current = grind (arith, common_steps, opened_writable);
  }

  made_leaves : Leaves writer next old new None
  made_leaves = record {
    naming = grind (arith, common_steps);
    tells = ap (λ (w : WriterState). w.tells) made.same;
    keeps = ap (λ (w : WriterState). w.keeps) made.same;
    open_alone = grind (arith, common_steps, files_with);
    owns = owned_opened ready.streams made;
    slots = keeps_open _ _ _ made.added;
    output = grind (arith, common_steps, writable_before);
    ready = made_ready;
  }

unmade_leaves : {visible : Bool} {writer next : WriterState} {old new : List Slot} {f : Fault}
    → CanTell writer.tells old
    → MakesNone visible writer old new next f → Leaves writer next old new (Some f)
unmade_leaves can makes = rw makes.same (record {
  naming = makes.naming;
  tells = refl;
  keeps = refl;
  open_alone = λ alone. refl;
  owns = owned_unopened makes.none;
  slots = make_breaks _ _ can makes.none;
  output = tt;
  ready = tt;
})

-- standard output gets its line before the file is opened

last_same : (current : Current) (first : ℕ) (old new : List Slot) → length new ≡ length old → IsLast current first old
    → IsLast current first new
last_same (File slot size) first old new same last = (last.0, last.1 ∙ sym same)
last_same current first old new same last = tt

open_same : (current : Current) (bytes : List ℕ) (slots : List Slot) → IsOpenAt current slots
    → IsOpenAt current (with_written 0 bytes slots)
open_same (File slot size) bytes slots at = grind (arith, written_writable)
open_same Unopened bytes slots at = at
open_same current bytes slots at = tt

line_leaves : (visible : Bool) {writer : WriterState} {old : List Slot} → IsReady writer old
    → Leaves writer writer old (told_next visible writer.tells writer.names old) None
line_leaves visible {writer} ready = wrote_leaves visible 0 (line_next writer.tells writer.names) None refl
    (λ first last. last_same _ _ _ _ (length-changed_at 0 _ _) last) (keeps_write 0 _ _ _ refl) (open_same _ _ _ ready.current) ready refl

-- the file was made
made_becomes : {visible : Bool} (manner : Manner) {writer made : WriterState} (draft : Draft) {slot : ℕ}
    {old mid new : List Slot} → next_name writer.names ≡ name_after manner draft
    → mid ≡ with_written 0 (visible_of visible (told_before manner.output (name_after manner draft))) old
    → Made writer mid new made slot
    → Becomes manner.output visible (part_with manner.output (ended_files manner draft))
    (with_last (begun_out manner.output (ended_files manner draft) (name_after manner draft)) (ended_files manner draft)
    (file_of (name_after manner draft) [] state.Open)) old new None
made_becomes {visible} manner draft {mid} name line made = becomes_again (line_begins _) (out_added _ _ _ line)
    (opens _ _ _ _ _ (made.added ∙ ap (λ those. mid ++ opened those Fresh ∷ []) name))

-- the file could not be made
module _ {visible : Bool} {writer next : WriterState} {change : Draft → Draft} {old new : List Slot} {f : Fault}
    (ready : IsReady writer old) (of : (draft : Draft) → IsCurrent writer.tells draft.opening draft.bytes writer.current
    → Unwritten draft (change draft)) (makes : MakesNone visible writer old new next f) where
  unmade_begins : (manner : Manner) (draft : Draft) → Unwritten draft (change draft)
      → Begins (part_with manner.output (ended_files manner draft)) (draft_part manner (change draft))
  unmade_begins manner draft so = subst (λ part. Begins part (draft_part manner (change draft)))
      (ap (λ ended. part_of manner (map (share state.Closed) ended ++ [])) so.same ∙ ap (part_of manner) (append-nil (map (share state.Closed) draft.ended)))
      (part_grows manner (map (share state.Closed) (change draft).ended) [] _ tt)

  -- the file that was due
  unmade_due : (manner : Manner) (draft : Draft) → Unwritten draft (change draft) → Writes manner writer draft
      → IsNextName writer.names (next_name writer.names)
      → (bytes : List ℕ)
      × (draft_part manner (change draft) ≡ with_last
      (begun_out manner.output (ended_files manner draft) (next_name writer.names)) (ended_files manner draft)
      (file_of (next_name writer.names) bytes state.Open))
  unmade_due manner draft so writes (few, has, same) = ((change draft).bytes, rw (due_name so.none writes) (due_part so.none writes (change draft) few so has))

  -- names ran out: the part after the change has no more files
  unmade_short : f ≡ Verdict Suffixes → (manner : Manner) (draft : Draft) → Writes manner writer draft
      → RunsShort writer change manner draft (effect visible old new)
  unmade_short is manner draft writes = ran (subst (OpensNone visible writer.tells writer.names next.names old new) is makes.none) where
    so : Unwritten draft (change draft)
    so = of draft writes.current

    ran : OpensNone visible writer.tells writer.names next.names old new (Verdict Suffixes)
        → RunsShort writer change manner draft (effect visible old new)
    ran (no_name few none same) =
        let lacks : manner.has_name (length (change draft).ended) ≡ false =
        grind (arith, common_steps, unmade_count, none) in record {
          none = lacks;
          begun = so.makes;
          all = grind (arith, same, stopped_part, append-nil);
        }

  pub goes_unmade : Goes writer next change (effect visible old new) (Some f)
  goes_unmade = record {
    leaves = unmade_leaves ready.output makes;
    reaches = λ manner draft writes. let so = of draft writes.current in
        reaches_as (none_part manner draft so.none) refl (reaches_by (unmade_leaves ready.output makes).owns
        (λ first last. opens_not (ended_files manner draft)
        (ap (λ output. told_before output (next_name writer.names)) writes.same.output)
        (closed_files manner 0 draft.ended) (unmade_begins manner draft so) (unmade_due manner draft so writes)
        (stops_opening (let two = ready.streams in omega arith) makes.none)));
    short = unmade_short;
    writes = tt;
  }

-- a file was made and gets its first bytes, if there are any
pub goes_made : {visible : Bool} {writer made next : WriterState} {change : Draft → Draft} {slot : ℕ} (bytes : List ℕ)
    {old mid new : List Slot} {fault : Option Fault}
    → ((draft : Draft) → IsCurrent writer.tells draft.opening draft.bytes writer.current
    → Unwritten draft (change draft) × ((change draft).bytes ≡ bytes)) → IsReady writer old
    → Made writer (told_next visible writer.tells writer.names old) mid made slot
    → Appends made next slot 0 bytes (effect visible mid new) fault
    → Goes writer next change (effect visible old new) fault
goes_made {visible} {writer} {made} {next} {change} {slot} bytes {old} {mid} {new} {fault} of ready makes appends = record {
  leaves = leaves;
  reaches = λ manner draft writes. let (so, are) = of draft writes.current in
      reaches_as (none_part manner draft so.none)
      (due_part so.none writes (change draft) makes.few so makes.named ∙ ap
      (λ those. with_last (begun_out manner.output (ended_files manner draft) (name_after manner draft))
      (ended_files manner draft) (file_of (name_after manner draft) those state.Open)) are)
      (reaches_by leaves.owns (λ first last. becomes_again
      (part_trans _ _ _ (line_begins (told_before manner.output (name_after manner draft))) (grind (arith, begins_itself, more_files)))
      (made_becomes manner draft (due_name so.none writes) (ap (λ line. with_written 0 (visible_of visible line) old) (line_told so.none writes)) makes)
      (writes_to manner.output visible (ended_files manner draft) (name_after manner draft) [] bytes mid fault
      (closed_files manner 0 draft.ended) (grind (arith, common_steps)) appends.wrote)));
  short = grind (arith, common_steps, never_short);
  writes = where_well fault appends.current (λ current manner draft writes. let (so, are) = of draft writes.current in
      let count : length (shares_of (change draft)) ≡ length draft.ended + 1 =
      grind (arith, common_steps, made_count) in record {
        same = grind (arith, common_steps, makes);
        made = grind (arith, common_steps, makes, unmade_count);
        kept = grind (arith, common_steps, makes, files_with, length-append, unmade_shares);
        named = grind (arith, common_steps, due_named, makes, made_count);
        current = grind (arith, common_steps, counted_on, none_counted);
      });
} where
  line_ready : IsReady writer (told_next visible writer.tells writer.names old)
  line_ready = (line_leaves visible ready).ready

  is_file : made.current ≡ File slot 0
  is_file = ap (λ (w : WriterState). w.current) makes.same

  leaves : Leaves writer next old new fault
  leaves = leaves_again (line_leaves visible ready) (leaves_again (made_leaves line_ready makes)
      (appends_leaves bytes is_file (made_ready line_ready makes) appends))

-- The first bytes of a file that is opened with its first byte
pub first_bytes : (tells : Tells) {current : Current} (bytes : List ℕ) → current ≡ Due → false ≡ eqb (length bytes) 0
    → (draft : Draft) → IsCurrent tells draft.opening draft.bytes current
    → Unwritten draft (with_bytes bytes draft) × (draft.bytes ++ bytes ≡ bytes)
first_bytes tells bytes is some draft now = search rules

-- A file is begun while nothing is

pub paused_ready : {writer : WriterState} {slots : List Slot} → IsReady writer slots → IsReady (paused writer) slots
paused_ready ready = grind arith

-- what was begun had no file, so no more files have ended
pub ended_none : (draft : Draft) → made_of draft.opening draft.bytes ≡ []
    → draft.ended ++ made_of draft.opening draft.bytes ≡ draft.ended
ended_none draft none = search rules

-- a file is begun that is opened at once
pub at_once : {opening : Opening} → opening ≡ AtOnce → (draft : Draft) → draft.opening ≡ Never
    → Unwritten draft (with_next opening draft)
at_once is draft never = grind (arith, common_steps)

-- a file that was to be opened at once could not be made
pub begin_unmade : {visible : Bool} {writer next : WriterState} {opening : Opening} {old new : List Slot} {f : Fault}
    → opening ≡ AtOnce → IsReady writer old → MakesNone visible writer old new next f
    → Goes (paused writer) next (with_next opening) (effect visible old new) (Some f)
begin_unmade is ready makes = goes_unmade (paused_ready ready) (at_once is) (record { same = makes.same; naming = makes.naming; none = makes.none })

counts_none : (tells : Tells) → CountsOn tells 0 [] 0
counts_none Sizes = refl
counts_none tells = omega arith

pub begin_made : {visible : Bool} {writer next : WriterState} {opening : Opening} {slot : ℕ} {old new : List Slot}
    → opening ≡ AtOnce → IsReady writer old
    → Made writer (told_next visible writer.tells writer.names old) new next slot
    → Goes (paused writer) next (with_next opening) (effect visible old new) None
begin_made {visible} {next = next} {slot = slot} is ready made =
    goes_made [] (λ draft never. (at_once is draft never, refl)) (paused_ready ready)
    (record { few = made.few; named = made.named; place = made.place; added = made.added; same = made.same })
    (record { same = refl; current = (0, ap (λ (w : WriterState). w.current) made.same, counts_none next.tells); still = tt; wrote = none_written visible slot })

-- What was begun ends, if it has a file.

file_ends : {manner : Manner} {writer : WriterState} {draft : Draft} (slot size : ℕ) → writer.current ≡ File slot size
    → Writes manner writer draft → Writes manner (paused writer) (with_next Never draft)
file_ends slot size is writes =
    grind (arith, common_steps)

file_closed : {writer : WriterState} {old new : List Slot} → KeepsMade old new
    → KeepsFiles writer (paused writer) old new
file_closed keeps = search (rules, there_same)

closed_leaves : {writer : WriterState} (slot size : ℕ) {old new : List Slot} → writer.current ≡ File slot size
    → IsReady writer old → new ≡ changed_at slot closes old → Leaves writer (paused writer) old new None
closed_leaves slot size is ready closed =
    let at = at_file is ready in
    let made = made_close _ _ _ at.1 closed in record {
      naming = refl;
      tells = refl;
      keeps = refl;
      open_alone = λ alone. refl;
      owns = file_closed made;
      slots = keeps_close _ _ _ closed;
      output = grind (arith, common_steps);
      ready = grind (arith, can_tell, common_steps, there_same);
    }

-- what standard output gets before a file is opened is a beginning of what it gets about this file in all
closed_told : (output : Output) (name bytes : List ℕ)
    → IsBeginning (told_before output name) (told_of_files output (file_of name bytes state.Closed ∷ []))
closed_told (gets_lines line) name bytes = nothing_begins _
closed_told (gets_openings line) name bytes = ([], refl)
closed_told output name bytes = begins_itself []

closed_begins : (output : Output) (front : List Slot) (name bytes : List ℕ)
    → Begins (with_last (begun_out output front name) front (file_of name bytes state.Closed))
    (with_last (told_of_files output front ++ told_of_files output (file_of name bytes state.Closed ∷ [])) front
    (file_of name bytes state.Closed))
closed_begins output front name bytes = let (rest, is) = closed_told output name bytes in record {
  out = grind (arith, append_assoc);
  files = files_begin_themselves _;
}

pub close_not : {visible : Bool} {writer : WriterState} (slot size : ℕ) {old new : List Slot} {f : Fault}
    → writer.current ≡ File slot size → IsReady writer old → f ≡ fault.Write slot
    → SlotBreaks slot (changed_at slot closes old) new
    → Goes writer (paused writer) (with_next Never) (effect visible old new) (Some f)
close_not {visible} {writer} slot size {old} {new} is ready which broken = subst (λ f. Goes writer (paused writer) (with_next Never) (effect visible old new) (Some f)) (sym which) (record {
  leaves = record {
    naming = refl;
    tells = refl;
    keeps = refl;
    open_alone = λ alone. refl;
    owns = owns;
    slots = (let at = at_file is ready in (
      λ none. absurd (omega arith),
      close_rose slot old new at.1
          (writable_within slot old at.1) broken,
    ));
    output = tt;
    ready = tt;
  };
  reaches = λ manner draft writes. let now = now_is is writes in let named = file_named now.0 writes in
      reaches_as (open_part manner draft named now.0) (grind (arith, common_steps, next_shares, part_last))
      (reaches_by owns (λ first last. falls_wider (closes_not manner.output visible (ended_files manner draft) (name_after manner draft) draft.bytes old
      (closed_files manner 0 draft.ended) (last_file writer old is last).1 broken) (closed_begins manner.output
      (ended_files manner draft) (name_after manner draft) draft.bytes)));
  short = λ short_is. absurd (cc);
  writes = tt;
}) where
  owns : KeepsFiles writer (paused writer) old new
  owns = file_closed (made_again old (changed_at slot closes old) new (made_close slot old _ (at_file is ready).1 refl) (made_break slot _ new broken))

-- standard output gets the line for a closed file, or breaks
tells_file : (tells : Tells) (output : Output) (visible : Bool) (size : ℕ) (front : List Slot) (file : Slot)
    (old : List Slot) {new : List Slot} (fault : Option Fault) → output_of tells ≡ output → file.state ≡ state.Closed
    → IsCounted tells file.written size → AllClosed front → 0 < length old → TellsSize visible tells size old new fault
    → Becomes output visible (with_last (begun_out output front file.name) front file)
    (with_last (told_of_files output front ++ told_of_files output (file ∷ [])) front file) old new fault
tells_file Nothing output visible size front file old fault is shut size_is closed some (well, same) = rw (well, same, ← is) (record { gets = λ before at. at })
tells_file Openings output visible size front file old fault is shut size_is closed some (well, same) = rw
    (well, same, ← is, append-nil (opening_line file.name)) (record { gets = λ before at. at })
tells_file Sizes output visible size front file old {new} fault is shut size_is closed some wrote = rw (← is)
    (rw (append-nil (lines_for size_of_file front), line_told) (tells_line _ _ _ _ shut _ _ closed some
    (subst (λ n. Wrote visible 0 (decimal n ++ 10 ∷ []) old new fault) size_is wrote))) where
      line_told : lines_for size_of_file (file ∷ []) ≡ size_of_file file
      line_told = grind (arith, common_steps)

told_leaves : (visible : Bool) (writer : WriterState) (size : ℕ) {old new : List Slot} (fault : Option Fault)
    (tells : Tells) → writer.tells ≡ tells → IsReady (paused writer) old → TellsSize visible tells size old new fault
    → Leaves (paused writer) (paused writer) old new fault
told_leaves visible writer size {old} {new} fault Sizes is ready wrote =
    let can : IsTrue (is_writable old 0) = grind (arith, is) in
    wrote_leaves visible 0 (decimal size ++ 10 ∷ []) fault refl (λ first last. tt) (rw is (slots fault can wrote)) (in_any _ tt) ready wrote where
      slots : (fault : Option Fault) → IsTrue (is_writable old 0)
          → Wrote visible 0 (decimal size ++ 10 ∷ []) old new fault
          → KeepsOrBreaks (manner_by writer.names.naming (output_of Sizes)) old new fault
      slots None can wrote = keeps_write 0 _ _ _ wrote
      slots (Some f) can wrote = grind (arith, line_breaks)
told_leaves visible writer size fault tells is ready (well, same) = rw (well, same) (leaves_still ready)

-- if writing a size fails, that is a failed write
pub tells_write : (visible : Bool) (tells : Tells) (size : ℕ) (old new : List Slot) (result : Result (Unit {0}) Fault)
    → TellsSize visible tells size old new (fault_in result) → IfErr result IsWrite
tells_write visible tells size old new (Ok done) tells_it = tt
tells_write visible Nothing size old new (Err f) (well, same) = absurd (cc)
tells_write visible Sizes size old new (Err _) (short.broke n cut) = (0, refl)
tells_write visible Openings size old new (Err f) (well, same) = absurd (cc)

-- writing a size needs no names
told_short : (P : Type 0) (visible : Bool) (tells : Tells) (size : ℕ) (old new : List Slot) (fault : Option Fault)
    → TellsSize visible tells size old new fault → IfSome fault (λ fault. fault ≡ Verdict Suffixes → P)
told_short P visible Sizes size old new fault wrote = never_short P visible 0 (decimal size ++ 10 ∷ []) _ _ _ wrote
told_short P visible tells size old new fault (well, same) = rw well tt

pub end_told : {visible : Bool} {writer : WriterState} (slot size : ℕ) {old mid new : List Slot} {fault : Option Fault}
    → writer.current ≡ File slot size → IsReady writer old → mid ≡ changed_at slot closes old
    → TellsSize visible writer.tells size mid new fault
    → Goes writer (paused writer) (with_next Never) (effect visible old new) fault
end_told {visible} {writer} slot size {old} {mid} {new} {fault} is ready closed tells = record {
  leaves = leaves;
  reaches = λ manner draft writes. let now = now_is is writes in let named = file_named now.0 writes in
      reaches_as (open_part manner draft named now.0) (grind (arith, common_steps, next_shares, part_last))
      (reaches_by leaves.owns (λ first last. becomes_again
      (grind (arith, begins_itself, front_begins))
      (closes_last manner.output visible _ (ended_files manner draft) (name_after manner draft) draft.bytes old (last_file writer old is last).1 closed)
      (tells_file writer.tells manner.output visible size (ended_files manner draft)
      (file_of (name_after manner draft) draft.bytes state.Closed) mid fault writes.same.output refl now.1 (closed_files manner 0 draft.ended)
      (let two = paused_now.streams in omega arith) tells)));
  short = told_short _ visible writer.tells size mid new fault tells;
  writes = grind (arith, common_steps, in_any, file_ends, is);
} where
  paused_now : IsReady (paused writer) mid
  paused_now = (closed_leaves slot size is ready closed).ready

  leaves : Leaves writer (paused writer) old new fault
  leaves = leaves_again (closed_leaves slot size is ready closed) (told_leaves visible writer size fault writer.tells refl paused_now tells)
