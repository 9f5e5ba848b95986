-- What the writer of files does: what it writes, whose the outputs are, and which faults come.
use Rattle.std.proofs.{
  lemmas.{Grind.common_steps, Bool.{false≢true, cases_lt}, List.{take-append-drop, Recursion.or_push}},
  Common.{◌≡◌, ℕ, ◌+◌, ◌<◌, ◌≤◌, ◌^◌, zero, suc, eqb, eq-eqb, ne_eqb, Bool, true, ◌||◌, IsTrue, List, [], ◌∷◌},
  Common.{◌++◌, length, take, drop, replicate, decimal, Option, Some, None, IfNone, IfSome, Result, OnOk, IsErrAnd},
  Common.{inl, inr, refl, sym, ◌∙◌, ap, subst, arith, rules, length-append},
  Math.{Bool.or-false, Seq.{take-append-add, take-append_seam, drop-append_seam}},
}
use Rattle.engine_core.specs.{
  Draft.{Manner, AreNamed, Draft, output_of, made_of, shares_of, draft_part, with_bytes, manner_by},
  FileWriter.{WriterState, Writes, CanCount, IsCounted, IsCurrent, IsLast, IsOpenAt, IsReady, IsManner, CanTell},
  FileWriter.{Breaks, manner_in, At, KeepsFiles, KeepsOrBreaks, Leaves, Reaches, Goes},
  Names.{line_next, OpensNone, no_memory, no_line, no_file, no_number, no_name},
  Written.{Written, OutputsAt, Begins, IsBeginning, Output, gets_lines, lines_for, writes},
  Swept.{AreThere, is_among},
  inner.{FileWriter.{Made, Appends, CountsOn, files_with}, Write.{Wrote, WritesShort}},
  InTurn.{AllClosed, InTurn, IsThere, LinesTo, fault_in},
  declared.{
    file_writer.{
      Current.{Current, TheVariants.{File, Unopened}},
      Keeps.{Keeps, TheVariants.{Open as OpenOne, All}},
      Tells.{Tells, TheVariants.{Nothing, Sizes, Openings}},
    },
    names.Names.Names,
  },
}
use Rattle.ports_core.specs.{
  Name.Naming,
  Slot.{Effect, Slot, effect, with_written, visible_of, Rose, has_file, slot_at, opened, is_writable, KeepsBroken},
  Write.BrokeAfter,
  declared.{
    fault.Fault.{Fault, TheVariants.{Memory, Verdict}},
    verdict.Verdict.TheVariants.Suffixes,
    slot.Mode.TheVariants.Fresh,
  },
}
use Rattle.ports_core.proofs.{HandedOn.handed_on, SlotLemmas.length-changed_at}
use Rattle.engine_core.proofs.{
  WrittenLemmas.{take_begins_after, files_begin_themselves, part_begins_itself, turn_between, turn_next, turn_last},
  WrittenSteps.{Becomes, becomes_again, with_last, halts_here, there_from, line_begins, lines_all, lines_of_last},
  WrittenSteps.{out_added, writes_to},
  ShareLemmas.{closed_files, ended_files, open_part, none_part, still_made, made_or},
  SlotSteps.{KeepsFiled, KeepsMade, filed_more, filed_same, none_past, write_rose, keeps_write, made_write},
  SlotSteps.{written_writable, made_short, rose_later},
  SweepLemmas.by_place,
}
use Rattle.engine_core.specs.inner.Write as short
use Rattle.ports_core.specs.declared.fault.Fault.TheVariants as fault
use Rattle.ports_core.specs.declared.slot.State.TheVariants as state

-- Outputs get from one part to another as a file is opened or standard output gets a line; or a fault stops them in
-- between.

-- standard output gets the line for the last file, which is closed
module _ (line : Slot → List ℕ) (visible : Bool) (front : List Slot) (file : Slot)
    (shut : file.state ≡ state.Closed) where
  -- only the line of the last file is cut short
  cut_short : (n : ℕ) (high : Written)
      → LinesTo (gets_lines line) (with_last (lines_for line front ++ take n (line file)) front file) high
      (length front) (fault.Write 0)
  cut_short n high = record {
    next = take n (line file);
    all = grind (arith, take-append_seam);
    cut = inr (
      refl,
      subst (IsBeginning (take n (line file))) (sym (ap (λ files. lines_for line (take 1 files))
          (drop-append_seam front (file ∷ [])) ∙ told_line)) (drop n (line file), sym (take-append-drop n (line file))),
    );
  } where
    told_line : lines_for line (file ∷ []) ≡ line file
    told_line = grind (arith, common_steps)

  pub tells_line : (old : List Slot) {new : List Slot} (fault : Option Fault) → AllClosed front → 0 < length old
      → Wrote visible 0 (line file) old new fault
      → Becomes (gets_lines line) visible (with_last (lines_for line front) front file)
      (with_last (lines_for line front ++ line file) front file) old new fault
  tells_line old None closed some wrote = out_added _ _ _ wrote
  tells_line old (Some _) closed some (short.broke n cut) =
      becomes_again (line_begins _) (out_added _ _ _ refl) (halts_here (record { out = take_begins_after n _ _; files = files_begin_themselves _ })
      (turn_last _ _ _ refl closed)
      (cut_short n (with_last (lines_for line front ++ line file) front file)) (
        let size : length (with_written 0 (visible_of visible (take n (line file))) old) ≡ length old =
            length-changed_at 0 _ _ in omega arith,
        cut.slots,
      ) (λ before at. inl refl))

-- a statement on the fault of a call in which a `?` handed a fault on
pub stop_is : {T : Type 0} (P : Option Fault → Type 0) (result : Result T Fault) (fault : Fault)
    → IsErrAnd result (λ given. given ≡ fault) → P (Some fault) → P (fault_in result)
stop_is P result fault handed holds = grind (arith, handed_on)

-- From one state of the outputs to another. The writers follow from the steps.

pub reaches_again : {output : Output} {visible : Bool} {low middle high : Written} {old mid new : List Slot}
    {fault : Option Fault} {one two three : WriterState} → Begins low middle
    → Reaches output one two low middle (effect visible old mid) None
    → Reaches output two three middle high (effect visible mid new) fault
    → Reaches output one three low high (effect visible old new) fault
reaches_again begins first second = grind (arith, there_from)

-- a step that was stopped is a step to more that was stopped there
pub stops_wider : {output : Output} {low middle high : Written} {outs : Effect} {fault : Fault}
    {writer next : WriterState}
    → Reaches output writer next low middle outs (Some fault) → Begins middle high
    → Reaches output writer next low high outs (Some fault)
stops_wider stops begins =
    record { there = λ before at. turn_between _ _ _ _ _ _ _ _ _ (part_begins_itself _) (stops.there before at) begins }

-- a step is known for the outputs alone, as long as the open file is the last output
pub reaches_by : {output : Output} {visible : Bool} {low high : Written} {old new : List Slot} {fault : Option Fault}
    {writer next : WriterState} → KeepsFiles writer next old new
    → ((first : ℕ) → IsLast writer.current first old → Becomes output visible low high old new fault)
    → Reaches output writer next low high (effect visible old new) fault
reaches_by {output} {visible} {low} {high} {old} {new} {fault} {writer} {next} keeps becomes =
    record { there = λ before at. by fault before at ((becomes (length before) at.owns.last).gets before at.outputs) } where
      by : (fault : Option Fault) (before : List Slot) → At visible writer before low old
          → IsThere output visible (OutputsAt visible before high new) before low high new fault
          → IsThere output visible (At visible next before high new) before low high new fault
      by None before at outputs = grind arith
      by (Some why) before at stops = stops

-- a step between two parts that are written in another way
pub reaches_as : {output : Output} {low low' high high' : Written} {outs : Effect} {fault : Option Fault}
    {writer next : WriterState} → low ≡ low' → high ≡ high' → Reaches output writer next low' high' outs fault
    → Reaches output writer next low high outs fault
reaches_as is_low is_high reaches = grind arith

pub reaches_still : {output : Output} {visible : Bool} {low high : Written} {slots : List Slot}
    {writer next : WriterState}
    → KeepsFiles writer next slots slots → low ≡ high
    → Reaches output writer next low high (effect visible slots slots) None
reaches_still keeps is = grind arith

-- want of memory leaves the outputs as they are

pub in_turn : {output : Output} {visible : Bool} {part : Written} (place : ℕ) {slots : List Slot}
    {writer next : WriterState}
    → InTurn part.files place → LinesTo output part part place Memory
    → Reaches output writer next part part (effect visible slots slots) (Some Memory)
in_turn place turn lines = search (rules, part_begins_itself)

pub made_count : (draft : Draft) → made_of draft.opening draft.bytes ≡ draft.bytes ∷ []
    → length (shares_of draft) ≡ length draft.ended + 1
made_count draft makes = grind (arith, common_steps)

pub lacks_memory : {visible : Bool} (manner : Manner) (draft : Draft) {slots : List Slot} {writer next : WriterState}
    → AreNamed manner (length (shares_of draft))
    → Reaches manner.output writer next (draft_part manner draft) (draft_part manner draft) (effect visible slots slots)
    (Some Memory)
lacks_memory manner draft named = elim (made_or draft.opening draft.bytes) [
  | inl none ↦
      let is = none_part manner draft none in
      reaches_as is is (in_turn (length (ended_files manner draft)) (turn_next (ended_files manner draft)
      (closed_files manner 0 draft.ended)) (lines_all manner.output (ended_files manner draft) _ Memory tt))
  | inr makes ↦
      let is = open_part manner draft (grind (arith, made_count)) makes in
      reaches_as is is (in_turn (length (ended_files manner draft)) (turn_last (ended_files manner draft) _ _ refl
      (closed_files manner 0 draft.ended)) (lines_of_last manner.output (ended_files manner draft) _ _ Memory tt))
]

-- Outputs that were broken stay broken, and files stay the writer's own.

-- what follows from a statement on a call that ran out of names
pub where_short : {A B : Type 0} (fault : Option Fault) → IfSome fault (λ fault. fault ≡ Verdict Suffixes → A) → (A → B)
    → IfSome fault (λ fault. fault ≡ Verdict Suffixes → B)
where_short None holds follows = tt
where_short (Some why) holds follows = λ is. follows (holds is)

-- what follows from a statement on a call that went well
pub where_well : {A B : Type 0} (fault : Option Fault) → IfNone fault A → (A → B) → IfNone fault B
where_well fault holds follows = grind arith

pub in_any : {A : Type 0} (fault : Option Fault) → A → IfNone fault A
in_any fault holds = grind arith

where_both : {A B C : Type 0} (fault : Option Fault) → IfNone fault A → IfNone fault B → (A → B → C) → IfNone fault C
where_both fault one two follows = grind arith

pub where_three : {A B C D : Type 0} (fault : Option Fault) → IfNone fault A → IfNone fault B → IfNone fault C
    → (A → B → C → D) → IfNone fault D
where_three fault one two three follows = grind arith

pub well_in : {T : Type 0} (A : Type 0) (result : Result T Fault) → OnOk result A → IfNone (fault_in result) A
well_in A result holds = grind arith

pub breaks_later : {manner other : Manner} (old mid new : List Slot) (fault : Fault) → other ≡ manner
    → KeepsBroken old mid → Breaks other mid new fault → Breaks manner old new fault
breaks_later old mid new fault same keeps breaks = grind arith

-- a call doesn't change how files are made
pub same_manner : {writer next : WriterState} {old new : List Slot} {fault : Option Fault}
    → Leaves writer next old new fault → manner_in next ≡ manner_in writer
same_manner leaves = grind (arith, common_steps)

pub leaves_again : {one two three : WriterState} {old mid new : List Slot} {fault : Option Fault}
    → Leaves one two old mid None → Leaves two three mid new fault → Leaves one three old new fault
leaves_again first second =
    grind (arith, common_steps)

pub keeps_files : {writer : WriterState} {slots : List Slot} → KeepsFiles writer writer slots slots
keeps_files = grind (arith, common_steps)

pub leaves_still : {writer : WriterState} {slots : List Slot} → IsReady writer slots
    → Leaves writer writer slots slots None
leaves_still ready = grind (arith, keeps_files)

-- want of memory leaves the writer and its outputs as they are
pub leaves_lacking : {writer : WriterState} {slots : List Slot} → Leaves writer writer slots slots (Some Memory)
leaves_lacking = grind (arith, keeps_files)

-- the open file can be written
pub at_file : {writer : WriterState} {slot size : ℕ} {slots : List Slot} → writer.current ≡ File slot size
    → IsReady writer slots → (2 ≤ slot) × IsTrue (is_writable slots slot)
at_file is ready = grind (arith, common_steps)

-- the open file is the last output, if that is known of the current file
pub last_file : (writer : WriterState) {slot size first : ℕ} (slots : List Slot) → writer.current ≡ File slot size
    → IsLast writer.current first slots → (first ≤ slot) × (suc slot ≡ length slots)
last_file writer slots is last = grind (arith, common_steps)

-- lines about files can still be written if standard output can still be written
pub can_tell : (tells : Tells) (old new : List Slot) → (IsTrue (is_writable old 0) → IsTrue (is_writable new 0))
    → CanTell tells old → CanTell tells new
can_tell Nothing old new stays can = tt
can_tell tells old new stays can = stays can

-- The files are there, and stay the writer's own.

there_still : (files : List ℕ) (old new : List Slot)
    → ((place : ℕ) → has_file (slot_at old place).state ≡ true → has_file (slot_at new place).state ≡ true)
    → AreThere files old → AreThere files new
there_still [] old new keeps are = tt
there_still (place ∷ files) old new keeps are = grind (arith, there_still files _ _ keeps are.2)

pub there_same : (files : List ℕ) {old new : List Slot} → KeepsMade old new → AreThere files old → AreThere files new
there_same files keeps are = grind (arith, there_still)

-- one file more

among_more : (place slot : ℕ) (files : List ℕ)
    → is_among place (files ++ slot ∷ []) ≡ (is_among place files || eqb place slot)
among_more place slot files = or_push (is_among place) (eqb place) refl (λ one others. refl) files slot

-- a file that is opened stands after all files that are there

there_more : (files : List ℕ) (slots : List Slot) (name : List ℕ) {slot : ℕ} → slot ≡ length slots → 2 ≤ length slots
    → AreThere files slots → AreThere (files ++ slot ∷ []) (slots ++ opened name Fresh ∷ [])
there_more [] slots name at two are = grind (arith, common_steps)
there_more (place ∷ files) slots name at two are =
    grind (arith, common_steps, among_more, ne_eqb, there_more files slots name)

there_before : (files : List ℕ) (old : List Slot) (one : Slot) {new : List Slot} → new ≡ old ++ one ∷ []
    → AreThere files old → AreThere files new
there_before [] old one added are = tt
there_before (place ∷ files) old one added are =
    grind (arith, common_steps, there_before files _ _ added are.2)

pub opened_by : (keeps : Keeps) {writer : WriterState} {slot : ℕ} {old new : List Slot} (name : List ℕ) {names : Names}
    → 2 ≤ length old → writer.keeps ≡ keeps → slot ≡ length old → new ≡ old ++ opened name Fresh ∷ []
    → KeepsFiles writer
    (record writer { names = names; files = files_with keeps writer.files slot; current = File slot 0 }) old new
opened_by OpenOne name two is at added =
    grind (arith, common_steps, length-append, there_before)
opened_by All name two is at added =
    grind (arith, common_steps, by_place, or-false, among_more, there_more, cases_lt, none_past, eq-eqb, false≢true)

pub owned_opened : {writer next : WriterState} {slot : ℕ} {old new : List Slot} → 2 ≤ length old
    → Made writer old new next slot → KeepsFiles writer next old new
owned_opened two made = grind (arith, common_steps, opened_by)

unmade_keeps : {visible : Bool} {tells : Tells} {names next : Names} {old new : List Slot} {f : Fault}
    → OpensNone visible tells names next old new f → KeepsFiled old new
unmade_keeps (no_memory same) = rw same (record { same = λ place. refl; within = omega arith })
unmade_keeps (no_line n few has cut) = filed_same (made_short _ 0 _ _ _ _ (short.broke n cut))
unmade_keeps (no_file slot kept why number few has drew is added) =
    grind (arith, common_steps, filed_more, made_write)
unmade_keeps (no_number few has same) =
    grind (arith, common_steps, filed_same, made_write)
unmade_keeps (no_name few none same) = rw same (record { same = λ place. refl; within = omega arith })

pub owned_unopened : {visible : Bool} {writer : WriterState} {names next : Names} {old new : List Slot} {f : Fault}
    → OpensNone visible writer.tells names next old new f
    → KeepsFiles writer (record writer { names = next; current = Unopened }) old new
owned_unopened {writer = writer} {next = next} {old = old} {new} none = let kept = unmade_keeps none in by kept.same kept.within where
  by : ((place : ℕ) → has_file (slot_at new place).state ≡ has_file (slot_at old place).state) → length old ≤ length new
      → KeepsFiles writer (record writer { names = next; current = Unopened }) old new
  by same within = grind (arith, common_steps, there_still)

-- Which faults come

-- a fault has its causes if the manner in which files are made is written in another way
pub breaks_as : {manner own : Manner} (old new : List Slot) (fault : Fault) → IsManner manner own
    → Breaks own old new fault → Breaks manner old new fault
breaks_as old new (fault.Write slot) same (out, rose) = grind arith
breaks_as old new (Verdict Suffixes) same (place, few, none) = grind (arith, common_steps)
breaks_as old new fault same breaks = breaks

-- standard output breaks in a line only if it gets lines
line_rose : (visible : Bool) (tells : Tells) (names : Names) (n : ℕ) {old new : List Slot} → CanTell tells old
    → BrokeAfter visible old new 0 (line_next tells names) n → (writes (output_of tells) ≡ true) × Rose 0 old new
line_rose visible Openings names n can cut = search (rules, write_rose)
line_rose visible tells names n can cut = absurd (omega arith)

pub make_breaks : (visible : Bool) (tells : Tells) {names next : Names} {old new : List Slot} {f : Fault}
    → CanTell tells old → OpensNone visible tells names next old new f
    → Breaks (manner_by names.naming (output_of tells)) old new f
make_breaks visible tells can (no_line n few has cut) = grind (arith, common_steps, line_rose)
make_breaks visible tells can (no_file slot kept why number few has drew is added) =
    grind (arith, common_steps, length-changed_at, rose_later, keeps_write)
make_breaks visible tells {names} can (no_name few none same) = (names.drawn, few, none)
make_breaks visible tells can other = tt

pub line_breaks : (visible : Bool) (naming : Naming) (line : List ℕ) {old new : List Slot} {f : Fault}
    → IsTrue (is_writable old 0) → WritesShort visible 0 line old new f
    → Breaks (manner_by naming (output_of Sizes)) old new f
line_breaks visible naming line can (short.broke n cut) = grind (arith, common_steps)

-- The line with a file's size.

pub one_left : (n all : ℕ) → n < all → take {A = ℕ} 1 (drop n (replicate all 10)) ≡ 10 ∷ []
one_left zero (suc all) less = refl
one_left (suc n) (suc all) less = one_left n _ (omega arith)
one_left n all less = absurd (omega arith)

-- in a row of newlines the digits replaced the front, and one newline after them is taken
pub line_is : (size all : ℕ) {digits : List ℕ} (copied : List ℕ) → copied ≡ digits → digits ≡ decimal size
    → length digits < all
    → take (length digits + 1) (copied ++ drop (length digits) (replicate all 10)) ≡ decimal size ++ 10 ∷ []
line_is size all copied same is fits = search (rules, take-append-add, one_left)

-- What was begun

pub now_is : {manner : Manner} {writer : WriterState} {draft : Draft} {current : Current} → writer.current ≡ current
    → Writes manner writer draft → IsCurrent writer.tells draft.opening draft.bytes current
now_is is writes = grind arith

-- all files of the writer have names, also the open file
pub file_named : {manner : Manner} {writer : WriterState} {draft : Draft}
    → made_of draft.opening draft.bytes ≡ draft.bytes ∷ [] → Writes manner writer draft
    → AreNamed manner (suc (length draft.ended))
file_named makes writes = grind (arith, made_count)

-- the writer goes on, and no file was made
pub writes_on : {manner : Manner} {writer next : WriterState} {draft after : Draft}
    → next ≡ record writer { current = next.current } → length (shares_of draft) ≡ length (shares_of after)
    → IsCurrent writer.tells after.opening after.bytes next.current → Writes manner writer draft
    → Writes manner next after
writes_on same count current writes = grind (arith, common_steps)

-- Nothing is written: what was begun had no file, and gets none

pub goes_still : {visible : Bool} {writer : WriterState} {change : Draft → Draft} (current : Current)
    {slots : List Slot}
    → IsReady writer slots → IsOpenAt current slots
    → ((first : ℕ) → IsLast writer.current first slots → IsLast current first slots)
    → ((draft : Draft) → IsCurrent writer.tells draft.opening draft.bytes writer.current
    → (shares_of draft ≡ shares_of (change draft))
    × IsCurrent writer.tells (change draft).opening (change draft).bytes current)
    → Goes writer (record writer { current = current }) change (effect visible slots slots) None
goes_still {writer = writer} current {slots} ready at last stays = grind (arith, reaches_still) where
  keeps : KeepsFiles writer (record writer { current = current }) slots slots
  keeps = grind arith

-- a call without bytes writes nothing
pub put_nothing : {visible : Bool} {writer : WriterState} {bytes : List ℕ} {slots : List Slot} → bytes ≡ []
    → IsReady writer slots → Goes writer writer (with_bytes bytes) (effect visible slots slots) None
put_nothing none ready = grind (arith, common_steps)

-- The open file gets more bytes, or breaks.

file_now : {writer next : WriterState} {slot size : ℕ} {bytes : List ℕ} {outs : Effect}
    (fault : Option Fault) → writer.current ≡ File slot size → Appends writer next slot size bytes outs fault
    → (more : ℕ) × (next.current ≡ File slot more)
file_now None is appends = (appends.current.0, appends.current.1)
file_now {size = size} (Some why) is appends = (size, appends.still ∙ is)

wrote_slots : (visible : Bool) (manner : Manner) (slot : ℕ) (bytes : List ℕ) (old new : List Slot)
    (fault : Option Fault)
    → (2 ≤ slot) × IsTrue (is_writable old slot) → Wrote visible slot bytes old new fault
    → KeepsOrBreaks manner old new fault
wrote_slots visible manner slot bytes old new None at wrote = keeps_write _ _ _ _ wrote
wrote_slots visible manner slot bytes old new (Some _) at (short.broke n cut) = (λ none. absurd (omega arith), write_rose _ _ _ n _ _ at.1 cut)

-- a write needs no names
pub never_short : (P : Type 0) (visible : Bool) (slot : ℕ) (bytes : List ℕ) (old new : List Slot) (fault : Option Fault)
    → Wrote visible slot bytes old new fault → IfSome fault (λ fault. fault ≡ Verdict Suffixes → P)
never_short P visible slot bytes old new None wrote = tt
never_short P visible slot bytes old new (Some _) (short.broke n cut) = λ is. absurd (cc)

wrote_made : (visible : Bool) (slot : ℕ) (bytes : List ℕ) (old new : List Slot) (fault : Option Fault)
    → Wrote visible slot bytes old new fault → KeepsMade old new
wrote_made visible slot bytes old new None wrote = made_write _ _ _ _ wrote
wrote_made visible slot bytes old new (Some f) wrote = made_short _ _ _ _ _ f wrote

-- after a write that went well, an output that could be written still can
wrote_can : (visible : Bool) (slot : ℕ) (bytes : List ℕ) (place : ℕ) (old new : List Slot) (fault : Option Fault)
    → Wrote visible slot bytes old new fault
    → IfNone fault (IsTrue (is_writable old place) → IsTrue (is_writable new place))
wrote_can visible slot bytes place old new None wrote = grind (arith, written_writable)
wrote_can visible slot bytes place old new (Some f) wrote = tt

-- what a write to one of the outputs leaves of a writer
pub wrote_leaves : (visible : Bool) {writer next : WriterState} (slot : ℕ) (bytes : List ℕ) {old new : List Slot}
    (fault : Option Fault) → next ≡ record writer { current = next.current }
    → ((first : ℕ) → IsLast writer.current first old → IsLast next.current first new)
    → KeepsOrBreaks (manner_in writer) old new fault → IfNone fault (IsOpenAt next.current new) → IsReady writer old
    → Wrote visible slot bytes old new fault → Leaves writer next old new fault
wrote_leaves visible {writer} {next} slot bytes {old} {new} fault same last slots still ready wrote = record {
  naming = ap (λ (w : WriterState). w.names.naming) same;
  tells = ap (λ (w : WriterState). w.tells) same;
  keeps = ap (λ (w : WriterState). w.keeps) same;
  open_alone = λ alone. ap (λ (w : WriterState). w.files) same;
  owns = owns;
  slots = slots;
  output = wrote_can visible _ _ 0 _ _ _ wrote;
  ready = where_both fault (wrote_can _ _ bytes 0 _ _ _ wrote) still (λ can at. record {
    streams = (let two = ready.streams in omega (arith, two, made.size));
    output = subst (λ tells. CanTell tells new) (sym (ap (λ (w : WriterState). w.tells) same)) (can_tell _ _ new can ready.output);
    files = owns.there ready.files;
    current = at;
  });
} where
  made : KeepsMade old new
  made = wrote_made visible _ _ _ _ _ wrote

  owns : KeepsFiles writer next old new
  owns = grind (arith, there_same, made)

-- a count below 2^64 can be counted
pub can_count : (tells : Tells) (size : ℕ) (bytes : List ℕ) → size + length bytes < 2 ^ 64 → CanCount tells size bytes
can_count Sizes size bytes few = few
can_count tells size bytes few = tt

-- the count of bytes stays right
pub counted_on : (tells : Tells) (had bytes : List ℕ) (size more : ℕ) → IsCounted tells had size
    → CountsOn tells size bytes more → IsCounted tells (had ++ bytes) more
counted_on Sizes had bytes size more is on = grind (arith, length-append)
counted_on tells had bytes size more is on = tt

pub none_counted : (tells : Tells) → IsCounted tells [] 0
none_counted Sizes = refl
none_counted tells = tt

module _ {visible : Bool} {writer next : WriterState} {slot size : ℕ} (bytes : List ℕ) {old new : List Slot}
    {fault : Option Fault} (is : writer.current ≡ File slot size) (ready : IsReady writer old)
    (appends : Appends writer next slot size bytes (effect visible old new) fault) where
  pub appends_leaves : Leaves writer next old new fault
  appends_leaves =
      let at = at_file is ready in
      let now = file_now _ is appends in
      wrote_leaves visible slot bytes fault appends.same
      (λ first last. let was = last_file writer _ is last in rw now.1 (was.0, was.1 ∙ sym (wrote_made visible _ bytes _ _ _ appends.wrote).size))
      (wrote_slots visible (manner_in writer) _ bytes _ _ _ at appends.wrote)
      (where_well _ (wrote_can visible _ bytes _ _ _ _ appends.wrote) (λ can. subst (λ current. IsOpenAt current new) (sym now.1) (at.0, can at.1)))
      ready appends.wrote

  pub put_file : Goes writer next (with_bytes bytes) (effect visible old new) fault
  put_file = record {
    leaves = appends_leaves;
    reaches = λ manner draft writes. let now = now_is is writes in let named = file_named now.0 writes in
        reaches_as (open_part manner draft named now.0) (open_part manner (with_bytes bytes draft) named (still_made _ _ bytes now.0))
        (reaches_by appends_leaves.owns (λ first last. writes_to _ visible (ended_files manner draft) _ _ bytes _ fault
        (closed_files manner 0 draft.ended) (last_file writer _ is last).1 appends.wrote));
    short = never_short _ visible slot bytes _ _ fault appends.wrote;
    writes = where_well fault appends.current (λ current manner draft writes. let now = now_is is writes in
        let grown = still_made _ _ bytes now.0 in
        let count : length (shares_of draft) ≡ length (shares_of (with_bytes bytes draft)) =
        grind (arith, common_steps, made_count) in
        writes_on appends.same count
        (rw current.1 (grown, counted_on writer.tells draft.bytes bytes size current.0 now.1 current.2)) writes);
  }
