-- Lemmas on what is written after what was written before, on outputs that a fault stopped, and on the fault's message.
use Rattle.std.proofs.{
  lemmas.{Grind.common_steps, List.{map-append, append-nil}},
  Common.{◌≡◌, ℕ, ◌+◌, ◌<◌, ◌≤◌, suc, Bool, true, false, List, [], ◌∷◌, ◌++◌, length, map, take, drop, ◌⊎◌, inl},
  Common.{inr, refl, sym, ◌∙◌, ap, arith, append_assoc, length-append, zero, lit<, lit≤, subst},
  Math.Seq.{take-append-add, drop-append-add},
}
use Rattle.ports_core.specs.{
  Slot.{Slot, with_written, visible_of, visible_slot, is_open, slot_at, adds},
  declared.fault.Fault.{Fault, TheVariants.{Write, Open}},
  Message.OnError,
}
use Rattle.engine_core.specs.{
  Written.{nothing, Written, only_out, OutputsAt, IsBeginning, Begins, IsNext, IsAt, StoppedBetween, Marks, Output},
  Written.{gets_lines, gets_openings, lines_for, openings_for, LinesInOrder},
  Swept.{Swept, SweptFrom, Cleared},
}
use Rattle.engine_core.proofs.{
  WrittenLemmas.{due_by, marks_by, outputs_count},
  SlotSteps.{none_past, swept_none},
  WrittenSteps.front_begins,
}
use Rattle.ports_core.proofs.{
  SlotLemmas.{length-changed_at, changed_at-append},
  WriteLemmas.{visible_of-append, with_written-append},
}
use Rattle.run_core.specs.{Task.after_part}

-- Lemmas on what is written after what was written before.

out_after : (out low : List ℕ) {high : List ℕ} → IsBeginning low high → IsBeginning (out ++ low) (out ++ high)
out_after out low (rest, is) = (rest, ap (λ bytes. out ++ bytes) is ∙ sym (append_assoc out low rest))

pub begins_after : (first : Written) {low high : Written} → Begins low high
    → Begins (after_part first low) (after_part first high)
begins_after first begins = grind (arith, common_steps, out_after, front_begins)

pub after_assoc : (first next last : Written)
    → after_part (after_part first next) last ≡ after_part first (after_part next last)
after_assoc first next last = simp append_assoc

pub nothing_after : {part : Written} → after_part part nothing ≡ part
nothing_after = simp append-nil

-- bytes on standard output, after a part
pub out_on : (first : Written) (bytes : List ℕ)
    → record first { out = first.out ++ bytes } ≡ after_part first (only_out bytes)
out_on first bytes = rw (append-nil first.files)

-- outputs that are at one part, and from there on at another, are at both
pub at_after : {visible : Bool} {base : List Slot} {first part : Written} {mid now : List Slot}
    → OutputsAt visible base first mid → OutputsAt visible mid part now
    → OutputsAt visible base (after_part first part) now
at_after {visible} {base} {first} {part} {mid} one two = record {
  standard = one.standard;
  slots = rw (
    two.slots,
    more,
    append_assoc (with_written 0 (visible_of visible (first.out ++ part.out)) base) (map (visible_slot visible) first.files),
    map-append (visible_slot visible) first.files part.files,
  );
} where
  more : with_written 0 (visible_of visible part.out) mid
      ≡ with_written 0 (visible_of visible (first.out ++ part.out)) base ++ map (visible_slot visible) first.files
  more = ap (with_written 0 (visible_of visible part.out)) one.slots
      ∙ changed_at-append 0 _ (with_written 0 (visible_of visible first.out) base) _ (rw (length-changed_at 0 _ base) one.standard)
      ∙ ap (λ front. front ++ map (visible_slot visible) first.files) (with_written-append 0 (visible_of visible first.out) (visible_of visible part.out) base ∙ ap (λ bytes. with_written 0 bytes base) (sym (visible_of-append visible first.out part.out)))

from_after : (fault : Fault) (base : ℕ) {mid : ℕ} (place count : ℕ) (first : ℕ) → mid ≡ base + first
    → IsAt fault mid place count → IsAt fault base (first + place) (first + count)
from_after (Write _) base place count first is (inl here) = inl here
from_after (Write _) base place count first is (inr there) = inr (omega arith)
from_after (Open _) base place count first is at = ap (λ n. first + n) at
from_after fault base place count first is at = tt

-- what stopped after a part, stopped after it
lines_for-append : (line : Slot → List ℕ) (some more : List Slot)
    → lines_for line (some ++ more) ≡ lines_for line some ++ lines_for line more
lines_for-append line [] more = refl
lines_for-append line (file ∷ some) more = grind (arith, common_steps, (lines_for-append line some more))

-- the next file after more files
next_after : (first : Written) {part high : Written} (name : List ℕ) → IsNext part high name
    → IsNext (after_part first part) (after_part first high) name
next_after first {part} name next = record {
  front = first.files ++ next.front;
  file = next.file;
  rest = next.rest;
  files = rw (next.files, append_assoc first.files next.front (next.file ∷ next.rest));
  place = rw (length-append first.files next.front, next.place, length-append first.files part.files);
  name_is = next.name_is;
}

lines_after : (output : Output) (first low part high : Written) (place : ℕ) (fault : Fault)
    → LinesInOrder output low part high place fault
    → LinesInOrder output (after_part first low) (after_part first part) (after_part first high)
    (length first.files + place) fault
lines_after (gets_openings line) first low part high place fault are = record {
  next = are.next;
  all = ap (λ bytes. first.out ++ bytes) are.all ∙ sym (append_assoc first.out low.out _)
      ∙ ap (λ files. (first.out ++ low.out) ++ (openings_for line files ++ are.next)) (sym (ap (λ n. drop n (first.files ++ part.files)) (length-append first.files low.files) ∙ drop-append-add first.files part.files (length low.files)));
  due = due_by _ _ line are.next fault (next_after first) are.due;
}
lines_after (gets_lines line) first low part high place fault (inl same) = inl (ap (after_part first) same)
lines_after (gets_lines line) first low part high place fault (inr (since, is, are)) = inr (
  since,
  ap (λ bytes. first.out ++ bytes) is ∙ sym (append_assoc first.out low.out since),
  record {
    next = are.next;
    all = rw (
      take-append-add first.files part.files place,
      lines_for-append line first.files (take place part.files),
      lines_for-append line first.files low.files,
      append_assoc (lines_for line first.files) (lines_for line low.files) since,
      are.all,
      append_assoc (lines_for line first.files) (lines_for line (take place part.files)) are.next,
    );
    cut = subst (λ files. (are.next ≡ []) ⊎ ((fault ≡ Write 0) × IsBeginning are.next (lines_for line (take 1 files)))) (sym (drop-append-add first.files part.files place)) are.cut;
  },
)
lines_after output first low part high place fault lines = tt

pub stop_after : {output : Output} {visible : Bool} {base : List Slot} {first low high : Written} {fault : Fault}
    {mid now : List Slot} → OutputsAt visible base first mid → StoppedBetween output visible mid low high fault now
    → StoppedBetween output visible base (after_part first low) (after_part first high) fault now
stop_after {output} {visible} {base} {first} {low} {high} {fault} {mid} {now} at stop = record {
  part = after_part first stop.part;
  above = begins_after first stop.above;
  below = begins_after first stop.below;
  place = length first.files + stop.place;
  order =
      let past : suc (length first.files + stop.place) ≡ length first.files + suc stop.place = omega arith in record {
        done = rw (take-append-add first.files stop.part.files stop.place, stop.order.done, take-append-add first.files high.files stop.place);
        untouched = cc (past, drop-append-add first.files stop.part.files (suc stop.place), stop.order.untouched, drop-append-add first.files low.files (suc stop.place));
      };
  lines = lines_after output first low stop.part high stop.place fault stop.lines;
  reached = stop.reached;
  outputs = at_after at stop.outputs;
  marks = marks_by (IsNext stop.part high) (IsNext (after_part first stop.part) (after_part first high)) fault stop.reached now (next_after first) stop.marks;
  from = rw (length-append first.files stop.part.files) (from_after fault (length base) stop.place (length stop.part.files) (length first.files) (outputs_count visible base first mid at) stop.from);
}

-- if there is no file, none is to be removed

pub none_to_sweep : (clears : Bool) {first : ℕ} (slots : List Slot) → length slots ≤ first
    → Swept clears first slots slots
none_to_sweep clears {first} slots past = swept_none clears first slots (λ place above. none_past slots place (omega arith))

-- the same files are swept from another place, if that matters
pub swept_from : (clears : Bool) {first other : ℕ} (old new : List Slot) → (clears ≡ true → first ≡ other)
    → Swept clears first old new → Swept clears other old new
swept_from true old new same swept = rw (same refl) at swept
swept_from false old new same swept = swept

-- Lemmas on outputs that a fault stopped, and on the fault's message: standard error is the slot after the first, and what was opened comes
-- after both.

-- both streams are there, and standard error is open

pub record HasError (slots : List Slot) : Type 0 where
  pub output : Slot
  pub error : Slot
  pub since : List Slot
  pub are : slots ≡ output ∷ error ∷ since
  pub opened : is_open error.state ≡ true

pub error_open : {slots : List Slot} → HasError slots → is_open (slot_at slots 1).state ≡ true
error_open has = rw (has.are, has.opened)

shape_of : {output error : Slot} {since slots : List Slot} → is_open error.state ≡ true → slots ≡ output ∷ error ∷ since
    → HasError slots
shape_of {output} {error} {since} opened are = record { output = output; error = error; since = since; are = are; opened = opened }

marked_error : (IsName : List ℕ → Type 0) (fault : Fault) (output error : Slot) (since : List Slot) {now : List Slot}
    → is_open error.state ≡ true → Marks IsName fault (output ∷ error ∷ since) now → HasError now
marked_error IsName (Write zero) output error since opened marks = shape_of opened marks.1.1
marked_error IsName (Write (suc zero)) output error since opened marks = shape_of opened marks.1.1
marked_error IsName (Write (suc (suc place))) output error since opened marks = shape_of opened marks.1.1
marked_error IsName (Open slot) output error since opened marks = shape_of opened marks.1.5
marked_error IsName fault output error since opened marks = shape_of opened marks

pub stop_error : {how : Output} {visible : Bool} {output error : Slot} {low high : Written} {fault : Fault}
    {now : List Slot}
    → is_open error.state ≡ true → StoppedBetween how visible (output ∷ error ∷ []) low high fault now → HasError now
stop_error opened stop = grind (arith, common_steps, marked_error)

-- a message changes standard error, and no other output

pub said_at : {visible : Bool} {Change : Slot → Slot → Type 0} {output error : Slot} {part : Written}
    {old new : List Slot}
    → OutputsAt visible (output ∷ error ∷ []) part old → OnError Change old new
    → (after : Slot) × Change error after × OutputsAt visible (output ∷ after ∷ []) part new
said_at {visible} {output} {error} {part} at says =
    let said = says (adds (visible_of visible part.out) output) error _ at.slots in
    (said.0, said.1, record { standard = lit< tt; slots = said.2 })

pub beside_error : (output error error_too : Slot) (files : List Slot) (place : ℕ) → (place ≡ 1 → ⊥)
    → slot_at (output ∷ error ∷ files) place ≡ slot_at (output ∷ error_too ∷ files) place
beside_error output error error_too files (suc zero) differs = absurd (differs refl)
beside_error output error error_too files place differs = refl

-- what is reported after files were removed

swept_streams : {output error after : Slot} {since now : List Slot} {first : ℕ} → 2 ≤ first
    → SweptFrom first (output ∷ error ∷ since) (output ∷ error ∷ now)
    → SweptFrom first (output ∷ after ∷ since) (output ∷ after ∷ now)
swept_streams {output} {after} {since} {now} {first} past swept = record { size = swept.size; before = same_before; cleared = cleared_still } where
  same_before : (place : ℕ) → place < first
      → slot_at (output ∷ after ∷ now) place ≡ slot_at (output ∷ after ∷ since) place
  same_before (suc (suc place)) within = swept.before (suc (suc place)) within
  same_before place within = refl

  cleared_still : (place : ℕ) → first ≤ place
      → Cleared (slot_at (output ∷ after ∷ since) place) (slot_at (output ∷ after ∷ now) place)
  cleared_still (suc (suc place)) above = swept.cleared (suc (suc place)) above
  cleared_still place above = absurd (omega arith)

-- outputs that were swept have the same streams
pub swept_error : (clears : Bool) {first : ℕ} (old new : List Slot) → 2 ≤ first → Swept clears first old new
    → slot_at new 1 ≡ slot_at old 1
swept_error false old new past same = ap (λ slots. slot_at slots 1) same
swept_error true old new past swept = swept.before 1 (omega arith)

streams_left : {output error : Slot} {since : List Slot} (mid : List Slot) {first : ℕ} → 2 ≤ first
    → SweptFrom first (output ∷ error ∷ since) mid → (now : List Slot) × (mid ≡ output ∷ error ∷ now)
streams_left {output} (one ∷ two ∷ now) past swept =
    (now, ap (λ slot. slot ∷ two ∷ now) (swept.before 0 (omega arith)) ∙ ap (λ slot. output ∷ slot ∷ now) (swept.before 1 (omega arith)))
streams_left {since = since} mid past swept = absurd (cc)

-- a message after the files were removed changes standard error alone
pub record SaidSwept (Change : Slot → Slot → Type 0) (clears : Bool) (first : ℕ) (output error : Slot)
    (since new : List Slot) : Type 0 where
  pub after : Slot
  pub says : Change error after
  pub swept : Swept clears first (output ∷ after ∷ since) new

pub said_swept : (Change : Slot → Slot → Type 0) (clears : Bool) {output error : Slot} {since : List Slot}
    (mid new : List Slot) (first : ℕ) → 2 ≤ first → Swept clears first (output ∷ error ∷ since) mid
    → OnError Change mid new → SaidSwept Change clears first output error since new
said_swept Change false {output} {error} {since} mid new first past same says =
    let said = says output error since same in record { after = said.0; says = said.1; swept = said.2 }
said_swept Change true {output} {error} mid new first past swept says =
    let left = streams_left mid past swept in
    let said = says output error left.0 left.1 in
    record { after = said.0; says = said.1; swept = rw said.2 (swept_streams past (rw left.1 at swept)) }

-- a report changes standard error alone
pub record Reported (Change : Slot → Slot → Type 0) (mid new : List Slot) : Type 0 where
  pub says : Change (slot_at mid 1) (slot_at new 1)
  pub others : (place : ℕ) → (place ≡ 1 → ⊥) → slot_at new place ≡ slot_at mid place

reports : {Change : Slot → Slot → Type 0} {output error : Slot} {since mid new : List Slot}
    → mid ≡ output ∷ error ∷ since → OnError Change mid new → Reported Change mid new
reports {output = output} {error} {since} is says =
    let said = says output error since is in
    rw (is, said.2) (record { says = said.1; others = beside_error output said.0 error since })

pub reported : {Change : Slot → Slot → Type 0} (clears : Bool) {reached : List Slot} (has : HasError reached)
    (mid new : List Slot) → Swept clears 2 reached mid → OnError Change mid new → Reported Change mid new
reported false has mid new same says = reports (same ∙ has.are) says
reported true has mid new swept says = reports (streams_left mid (lit≤ tt) (rw has.are at swept)).1 says
