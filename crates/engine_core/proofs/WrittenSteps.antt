-- Outputs get from one part to another as their last file is opened, written and closed; or a fault stops them in
-- between.
use Rattle.std.proofs.{
  Common.{◌≡◌, ℕ, ◌+◌, suc, Bool, List, [], ◌∷◌, ◌++◌, length, take, Option, Some, None, inl, inr, refl, sym},
  Common.{◌∙◌, ap, arith, length-append},
  lemmas.{Grind.common_steps, List.{append-nil, take_all}},
  Math.Seq.take-append_seam,
}
use Rattle.ports_core.specs.{
  declared.{fault.Fault.Fault, slot.{Mode.TheVariants.Fresh, State.State}},
  Slot.{SlotBreaks, Slot, opened, changed_at, adds, closes, with_written, visible_of},
}
use Rattle.engine_core.specs.{
  Draft.{told_before, told_of_files},
  Written.{Written, OutputsAt, Begins, FilesBegin, IsNext, Marks, IsAt, IsDueLine, Output, gets_lines, gets_openings},
  Written.{lines_for, openings_for},
  InTurn.{AllClosed, InTurn, IsThere, LinesTo},
  inner.Write.Wrote,
}
use Rattle.ports_core.proofs.SlotLemmas.{length-changed_at}
use Rattle.engine_core.proofs.{
  FileLemmas.{file_more, last_changes, write_makes},
  WrittenLemmas.{begins_itself, begins_more, take_begins_after, files_begin_themselves, part_begins_itself, IsNoOpen},
  WrittenLemmas.{none_due, openings-append, out_more, outputs_count, turn_between, turn_last},
}
use Rattle.engine_core.specs.inner.Write as short
use Rattle.ports_core.specs.declared.fault.Fault.TheVariants as fault
use Rattle.ports_core.specs.declared.slot.State.TheVariants as state

pub record Becomes (output : Output) (visible : Bool) (low high : Written) (old new : List Slot) (fault : Option Fault)
    : Type 0 where
  pub gets : (before : List Slot) → OutputsAt visible before low old
      → IsThere output visible (OutputsAt visible before high new) before low high new fault

pub there_from : (output : Output) (visible : Bool) (There : Type 0) (before : List Slot) {low middle : Written}
    (high : Written)
    (new : List Slot) (fault : Option Fault) → Begins low middle
    → IsThere output visible There before middle high new fault → IsThere output visible There before low high new fault
there_from output visible There before high new None begins at = at
there_from output visible There before high new (Some fault) begins at =
    grind (arith, common_steps, turn_between, part_begins_itself)

pub becomes_again : {output : Output} {visible : Bool} {low middle high : Written} {old mid new : List Slot}
    {fault : Option Fault} → Begins low middle → Becomes output visible low middle old mid None
    → Becomes output visible middle high mid new fault → Becomes output visible low high old new fault
becomes_again begins first second =
    grind (arith, common_steps, there_from)

pub falls_wider : {output : Output} {visible : Bool} {low middle high : Written} {old new : List Slot} {fault : Fault}
    → Becomes output visible low middle old new (Some fault) → Begins middle high
    → Becomes output visible low high old new (Some fault)
falls_wider falls begins =
    record { gets = λ before at. turn_between _ _ _ _ _ _ _ _ _ (part_begins_itself _) (falls.gets before at) begins }

-- a file with this name, these bytes and this state
abbrev pub file_of : List ℕ → List ℕ → State → Slot
file_of name bytes state = record (opened name Fresh) { written = bytes; state = state }

-- these files, and a last file
abbrev pub with_last : List ℕ → List Slot → Slot → Written
with_last out front file = record { out = out; files = front ++ file ∷ [] }

-- what standard output gets about files, and about the next file before it is opened
abbrev pub begun_out : Output → List Slot → List ℕ → List ℕ
begun_out output front name = told_of_files output front ++ told_before output name

-- What begins what

pub line_begins : {out : List ℕ} (line : List ℕ) {files : List Slot}
    → Begins (record { out = out; files = files }) (record { out = out ++ line; files = files })
line_begins line = grind (arith, begins_more, files_begin_themselves)

pub more_files : (front more : List Slot) → FilesBegin front (front ++ more)
more_files [] more = tt
more_files (file ∷ front) more = (refl, refl, refl, inr refl, begins_itself _, more_files front _)

pub front_begins : (front low high : List Slot) → FilesBegin low high → FilesBegin (front ++ low) (front ++ high)
front_begins [] low high begins = begins
front_begins (file ∷ front) low high begins = (refl, refl, refl, inr refl, begins_itself _, front_begins front _ _ begins)

-- Steps

-- a fault came while the outputs still had the lower part
pub halts_here : {output : Output} {visible : Bool} {low high : Written} {old new : List Slot} {fault : Fault}
    {place : ℕ}
    → Begins low high → InTurn low.files place → LinesTo output low high place fault
    → Marks (IsNext low high) fault old new
    → ((before : List Slot) → OutputsAt visible before low old → IsAt fault (length before) place (length low.files))
    → Becomes output visible low high old new (Some fault)
halts_here {low = low} {old = old} {place = place} begins turn lines marks from = record {
  gets = λ before at. record {
    part = low;
    above = part_begins_itself _;
    below = begins;
    place = place;
    turn = turn;
    lines = lines;
    reached = old;
    outputs = at;
    marks = marks;
    from = from before at;
  };
}

-- the lines for files, if the last file isn't closed, or wasn't when these lines were written
pub lines_of_last : (output : Output) (front : List Slot) (file : Slot) (high : Written) (fault : Fault)
    → IsNoOpen fault
    → LinesTo output (with_last (begun_out output front file.name) front file) high (length front) fault
lines_of_last (gets_lines line) front file high fault other = record {
  next = [];
  all = ap
      (λ files. lines_for line files ++ []) (sym (take-append_seam front (file ∷ [])));
  cut = inl refl;
}
lines_of_last (gets_openings line) front file high fault other = record {
  next = [];
  all = sym (append-nil (openings_for line (front ++ file ∷ [])) ∙ openings-append line front (file ∷ []) ∙ ap
      (λ rest. openings_for line front ++ rest) (append-nil (line file.name)));
  due = none_due _ _ _ other;
}
lines_of_last output front file high fault other = tt

-- the lines for closed files, and these bytes of the line for the next file
pub lines_due : (output : Output) (front : List Slot) (name bytes : List ℕ) (high : Written) (fault : Fault)
    → (told_before output name ≡ [] → bytes ≡ [])
    → ((line : List ℕ → List ℕ) → told_before output name ≡ line name
    → IsDueLine
    (IsNext (record { out = told_of_files output front ++ bytes; files = front }) high) line bytes fault)
    → LinesTo output (record { out = told_of_files output front ++ bytes; files = front }) high (length front) fault
lines_due (gets_lines line) front name bytes high fault none due = grind (arith, take_all)
lines_due (gets_openings line) front name bytes high fault none due = grind arith
lines_due output front name bytes high fault none due = tt

-- the lines for closed files alone
pub lines_all : (output : Output) (front : List Slot) (high : Written) (fault : Fault) → IsNoOpen fault
    → LinesTo output (record { out = told_of_files output front; files = front }) high (length front) fault
lines_all (gets_lines line) front high fault other = grind (arith, common_steps)
lines_all (gets_openings line) front high fault other = grind (arith, common_steps)
lines_all output front high fault other = tt

-- standard output gets more bytes
pub out_added : (visible : Bool) {part : Written} (more : List ℕ) (old : List Slot) {new : List Slot} {output : Output}
    → new ≡ with_written 0 (visible_of visible more) old
    → Becomes output visible part (record part { out = part.out ++ more }) old new None
out_added visible more old wrote = record { gets = λ before at. out_more _ _ _ _ _ _ at wrote }

module _ (output : Output) (visible : Bool) (out : List ℕ) (front : List Slot) where
  -- the last slot is that of the last file
  last_place : (file : Slot) {before old : List Slot} {slot : ℕ} → suc slot ≡ length old
      → OutputsAt visible before (with_last out front file) old → slot ≡ length before + length front
  last_place file {before} {old} last at =
      let all : length old ≡ length before + length (front ++ file ∷ []) = outputs_count _ _ _ _ at in
      omega (arith, length-append front (file ∷ []))

  -- a file is opened
  pub opens : (name : List ℕ) {old new : List Slot} → new ≡ old ++ opened name Fresh ∷ []
      → Becomes output visible (record { out = out; files = front })
      (with_last out front (file_of name [] state.Open)) old new None
  opens name is = record { gets = λ before at. file_more _ _ _ _ _ _ _ at is }

  -- the last file gets bytes
  bytes_added : (name bytes more : List ℕ) {slot : ℕ} (old : List Slot) {new : List Slot} → suc slot ≡ length old
      → new ≡ with_written slot (visible_of visible more) old
      → Becomes output visible (with_last out front (file_of name bytes state.Open))
      (with_last out front (file_of name (bytes ++ more) state.Open)) old new None
  bytes_added name bytes more {slot} old {new} last wrote = record {
    gets = λ before at.
        last_changes visible (adds (visible_of visible more)) (adds more) (write_makes _ _) before
        (with_last out front (file_of name bytes state.Open)) front (file_of name bytes state.Open) old new slot refl last at wrote;
  }

  -- the last file is closed
  pub closes_last : (name bytes : List ℕ) {slot : ℕ} (old : List Slot) {new : List Slot} → suc slot ≡ length old
      → new ≡ changed_at slot closes old
      → Becomes output visible (with_last out front (file_of name bytes state.Open))
      (with_last out front (file_of name bytes state.Closed)) old new None
  closes_last name bytes {slot} old {new} last closed = record {
    gets = λ before at.
        last_changes visible closes closes (λ file. refl) before
        (with_last out front (file_of name bytes state.Open)) front (file_of name bytes state.Open) old new slot refl last at closed;
  }

-- the last file gets bytes, or is closed, or breaks; standard output has what it gets about these files
module _ (output : Output) (visible : Bool) (front : List Slot) (name bytes : List ℕ) where
  pub writes_to : (more : List ℕ) {slot : ℕ} (old : List Slot) {new : List Slot} (fault : Option Fault)
      → AllClosed front → suc slot ≡ length old → Wrote visible slot more old new fault
      → Becomes output visible (with_last (begun_out output front name) front (file_of name bytes state.Open))
      (with_last (begun_out output front name) front (file_of name (bytes ++ more) state.Open)) old new fault
  writes_to more old None closed last wrote = grind (arith, common_steps, bytes_added)
  writes_to more {slot} old (Some _) closed last (short.broke n cut) =
      becomes_again (grind (arith, begins_itself, front_begins, begins_more))
      (bytes_added _ _ _ _ _ _ _ _ last refl) (halts_here (grind (arith, begins_itself, front_begins, take_begins_after))
      (turn_last _ _ _ refl closed) (lines_of_last _ _ _ _ _ tt)
      (let size : length (with_written slot (visible_of visible (take n more)) old) ≡ length old = length-changed_at _ _ _ in omega arith, cut.slots)
      (λ before at. inr (last_place output _ _ _ _ (last ∙ sym (length-changed_at _ _ _)) at)))

  pub closes_not : {slot : ℕ} (old : List Slot) {new : List Slot} → AllClosed front → suc slot ≡ length old
      → SlotBreaks slot (changed_at slot closes old) new
      → Becomes output visible (with_last (begun_out output front name) front (file_of name bytes state.Open))
      (with_last (begun_out output front name) front (file_of name bytes state.Closed)) old new
      (Some (fault.Write slot))
  closes_not old closed last is =
      becomes_again (grind (arith, begins_itself, front_begins)) (closes_last _ _ _ _ _ _ _ last refl) (halts_here (part_begins_itself _)
      (turn_last _ _ _ refl closed)
      (lines_of_last _ _ _ _ _ tt)
      (omega (arith, length-changed_at), is)
      (λ before at. inr (last_place output _ _ _ _ (last ∙ sym (length-changed_at _ _ _)) at)))
