-- A file with the next name that wasn't opened: why, and what that leaves.
use Rattle.std.proofs.{
  Common.{◌≡◌, ℕ, ◌<◌, ◌^◌, Bool, List, [], ◌∷◌, ◌++◌, ◌⊎◌, length, take, drop, None, Some, inl, inr, refl, sym},
  Common.{subst, ap, ◌∙◌, IsTrue, arith, append_assoc},
  lemmas.List.{append-nil, take-append-drop},
}
use Rattle.engine_core.specs.{
  Names.{next_name, has_next, with_one_drawn, told_next, line_next, OpensNone, no_memory, no_line, no_file},
  Names.{no_number, no_name},
  Written.{Written, Begins, IsAt, IsBeginning, IsDueLine, IsNext, Marks, Output, nothing},
  InTurn.AllClosed,
  Draft.{output_of, part_with, told_before, told_of_files},
  inner.Names.TellsOpening,
  declared.{file_writer.Tells.Tells, names.Names.Names},
}
use Rattle.ports_core.specs.{
  Slot.{Slot, FailsToOpen, broke, numberless, unopened, visible_of, with_written},
  Write.BrokeAfter,
  declared.fault.Fault.Fault,
}
use Rattle.engine_core.proofs.{
  WrittenLemmas.{begins_itself, due_by, marks_by, turn_next},
  WrittenSteps.{Becomes, becomes_again, begun_out, file_of, halts_here, line_begins, lines_due, more_files, out_added},
  WrittenSteps.with_last,
}
use Rattle.ports_core.proofs.{SlotLemmas.length-changed_at, WriteLemmas.none_written}
use Rattle.engine_core.specs.inner.Write as short
use Rattle.ports_core.specs.declared.slot.State.TheVariants as state

-- the file could not be opened after standard output got the line about it
pub opens_none : (visible : Bool) (tells : Tells) (names : Names) {next : Names} {name : List ℕ} (old : List Slot)
    {mid new : List Slot} → name ≡ next_name names → names.drawn < 2 ^ 64 → IsTrue (has_next names)
    → next ≡ with_one_drawn names
    → mid ≡ told_next visible tells names old → {fault : Fault} → FailsToOpen mid name new fault
    → OpensNone visible tells names next old new fault
opens_none visible tells names old named few has drew line (broke slot kept why at is made) =
    no_file slot kept why (at ∙ ap length line ∙ length-changed_at 0 _ _) few has drew
    (subst (λ those. (kept ≡ those) ⊎ (kept ≡ [])) named is) (made ∙ ap (λ slots. slots ++ unopened why kept ∷ []) line)
opens_none visible tells names old named few has drew line (numberless full same) = no_number few has (same ∙ line)

-- standard output didn't get the line about the file
pub untold : (visible : Bool) (tells : Tells) (names : Names) {next : Names} {name : List ℕ} (old new : List Slot)
    {fault : Fault} → name ≡ next_name names → names.drawn < 2 ^ 64 → IsTrue (has_next names)
    → TellsOpening visible (told_before (output_of tells) name) old new (Some fault)
    → OpensNone visible tells names next old new fault
untold visible tells names {next} old new named few has (inl (is, same)) = subst (OpensNone visible tells names next old new) (sym is) (no_memory same)
untold visible tells names old new named few has (inr (short.broke n cut)) = no_line n few has
    (subst (λ name. BrokeAfter visible old new 0 (told_before (output_of tells) name) n) named cut)

pub told_so : (visible : Bool) (tells : Tells) (names : Names) {name : List ℕ} (old mid : List Slot)
    → name ≡ next_name names → TellsOpening visible (told_before (output_of tells) name) old mid None
    → mid ≡ told_next visible tells names old
told_so visible tells names old mid named tells_it = grind arith

-- this name is the next name, and there is a next name
abbrev pub IsNextName : Names → List ℕ → Type 0
IsNextName names name = (names.drawn < 2 ^ 64) × IsTrue (has_next names) × (name ≡ next_name names)

-- Standard output got these bytes of the line for the file, and then the fault left its mark.
pub record StopsOpening (visible : Bool) (tells : Tells) (names : Names) (old new : List Slot) (fault : Fault)
    : Type 0 where
  pub bytes : List ℕ
  pub reached : List Slot
  pub wrote : reached ≡ with_written 0 (visible_of visible bytes) old
  pub begins : (bytes ≡ []) ⊎ (IsNextName names (next_name names) × IsBeginning bytes (line_next tells names))
  pub due : (line : List ℕ → List ℕ) → line_next tells names ≡ line (next_name names)
      → IsDueLine (IsNextName names) line bytes fault
  pub marks : Marks (IsNextName names) fault reached new
  pub at : (first place : ℕ) → IsAt fault first place place

pub stops_opening : {visible : Bool} {tells : Tells} {names next : Names} {old new : List Slot} {fault : Fault}
    → 0 < length old → OpensNone visible tells names next old new fault → StopsOpening visible tells names old new fault
stops_opening {old = old} some (no_memory same) = record {
  bytes = [];
  reached = old;
  wrote =
      none_written _ 0;
  begins = inl refl;
  due = λ line is. inl refl;
  marks = same;
  at = λ first place. tt;
}
stops_opening {old = old} some (no_name few none same) = record {
  bytes = [];
  reached = old;
  wrote =
      none_written _ 0;
  begins = inl refl;
  due = λ line is. refl;
  marks = same;
  at = λ first place. tt;
}
stops_opening {visible} {tells} {names} {old = old} some (no_line n few has cut) = record {
  bytes = take n (line_next tells names);
  reached = with_written 0 (visible_of visible (take n (line_next tells names))) old;
  wrote = refl;
  begins = inr ((few, has, refl), begins);
  due = λ line is. inr (refl, (next_name names, (few, has, refl), subst (IsBeginning (take n (line_next tells names))) is begins));
  marks = (omega (arith, length-changed_at), cut.slots);
  at = λ first place. inl refl;
} where
  begins : IsBeginning (take n (line_next tells names)) (line_next tells names)
  begins = (drop n (line_next tells names), sym (take-append-drop n (line_next tells names)))
stops_opening {visible} {tells} {names} {old = old} some (no_file slot kept why at few has drew is made) = record {
  bytes = line_next tells names;
  reached = told_next visible tells names old;
  wrote = refl;
  begins = inr ((few, has, refl), begins_itself _);
  due = λ line is. (next_name names, (few, has, refl), is);
  marks = (at ∙ sym (length-changed_at 0 _ _), (next_name names, kept, why, (few, has, refl), is, made));
  at = λ first place. refl;
}
stops_opening {visible} {tells} {names} {old = old} some (no_number few has same) = record {
  bytes = line_next tells names;
  reached = told_next visible tells names old;
  wrote = refl;
  begins = inr ((few, has, refl), begins_itself _);
  due = λ line is. inr (next_name names, (few, has, refl), is);
  marks = same;
  at = λ first place. tt;
}

nothing_in : (front rest : List ℕ) → front ++ rest ≡ [] → front ≡ []
nothing_in [] rest none = refl
nothing_in (byte ∷ front) rest none = absurd (cc)

-- files, and these bytes of the line for the next file
abbrev begun_with : Output → List Slot → List ℕ → Written
begun_with output front bytes = record { out = told_of_files output front ++ bytes; files = front }

-- a file with the next name could not be opened; standard output gets the line about it first
pub opens_not : {output : Output} {visible : Bool} (front : List Slot) {tells : Tells} {names : Names} {high : Written}
    {old new : List Slot} {fault : Fault} → line_next tells names ≡ told_before output (next_name names)
    → AllClosed front → Begins (part_with output front) high
    → (IsNextName names (next_name names)
    → (bytes : List ℕ)
    × (high ≡ with_last (begun_out output front (next_name names)) front
    (file_of (next_name names) bytes state.Open)))
    → StopsOpening visible tells names old new fault
    → Becomes output visible (part_with output front) high old new (Some fault)
opens_not {output} {visible} front {tells} {names} {high} told_so closed begins is stops =
    becomes_again (line_begins _) (out_added _ _ _ stops.wrote) (halts_here (elim stops.begins [
      | inl none ↦ subst (λ bytes. Begins (begun_with output front bytes) high) (sym none)
          (subst (λ out. Begins (record { out = out; files = front }) high) (sym (append-nil (told_of_files output front))) begins)
      | inr some ↦ begun some.0 some.1
    ]) (turn_next _ closed) (lines_due _ _ _ _ _ _ none (λ line same. due_by _ _ _ _ _ next (stops.due line (told_so ∙ same))))
    (marks_by _ _ _ _ _ next stops.marks) (λ before at. stops.at (length before) (length front))) where
      next : (name : List ℕ) → IsNextName names name → IsNext (begun_with output front stops.bytes) high name
      next name (few, has, named) = let (bytes, so) = is (few, has, refl) in record {
        front = front;
        file = file_of (next_name names) bytes state.Open;
        rest = [];
        files = ap (λ (part : Written). part.files) so;
        place = refl;
        name_is = sym named;
      }

      begun : IsNextName names (next_name names) → IsBeginning stops.bytes (line_next tells names)
          → Begins (begun_with output front stops.bytes) high
      begun due (rest, line) = let (bytes, so) = is due in subst (λ part. Begins (begun_with output front stops.bytes) part) (sym so) (record {
        out = (
          rest,
          ap (λ text. told_of_files output front ++ text) (sym told_so ∙ line) ∙ sym
              (append_assoc (told_of_files output front) stops.bytes rest),
        );
        files = more_files _ _;
      })

      none : told_before output (next_name names) ≡ [] → stops.bytes ≡ []
      none nothing = elim stops.begins [
        | inl are ↦ are
        | inr some ↦ nothing_in _ _ (sym some.1.1 ∙ told_so ∙ nothing)
      ]
