-- Lemmas on removing many files.
use Rattle.std.proofs.{
  lemmas.Bool.{false≢true, or_parts},
  Common.{◌≡◌, ℕ, ◌+◌, ◌<◌, ◌≤◌, zero, suc, eqb, true, false, List, [], ◌∷◌, ◌++◌, length, get_or, set, take, drop},
  Common.{Result, Ok, Err, is_ok, OnOk, IfErr, refl, sym, ◌∙◌, ap, arith, length-set, take-suc, take-suc-set},
  Common.{drop-cons, drop-set-lt, rules, append-nil, append_assoc},
}
use Rattle.ports_core.specs.{
  Slot.{Slot, has_file, slot_at, changed_at, SlotBreaks, removes, closes},
  declared.fault.Fault.Fault,
}
use Rattle.engine_core.specs.{
  Swept.{Cleared, SweptFrom, removed, stuck, is_among, AreThere, Tries, Removes, all_tried, tried, goes, stays, none},
}
use Rattle.ports_core.proofs.SlotLemmas.{length-changed_at, changed_at-again, slot_at-elsewhere}
use Rattle.ports_core.specs.declared.fault.Fault.TheVariants as fault

-- A place among others

differs : {place : ℕ} (one : ℕ) → eqb place one ≡ false → place ≡ one → ⊥
differs one is same = search rules

-- a place is the first of these places, or not
pub by_place : {A : Type 0} (place one : ℕ) → (place ≡ one → A) → (eqb place one ≡ false → A) → A
by_place place one same other = search rules

-- What a change of one slot leaves

there : (place : ℕ) (change : Slot → Slot) (slots : List Slot) → has_file (slot_at slots place).state ≡ true
    → slot_at (changed_at place change slots) place ≡ change (slot_at slots place)
there place change [] has = search rules
there zero change (slot ∷ slots) has = refl
there (suc place) change (slot ∷ slots) has = there _ _ slots has

-- one file was tried: its slot was changed, and no other
module _ (one : ℕ) (change : Slot → Slot) (old : List Slot) where
  elsewhere : (place : ℕ) → eqb place one ≡ false → slot_at (changed_at one change old) place ≡ slot_at old place
  elsewhere place other = slot_at-elsewhere _ _ _ _ (differs _ other)

  still_there : (files : List ℕ) → is_among one files ≡ false → AreThere files old
      → AreThere files (changed_at one change old)
  still_there [] apart are = tt
  still_there (place ∷ files) apart are =
      let both = or_parts (eqb one place) (is_among one files) apart in
      let same = slot_at-elsewhere _ _ change old (λ same. differs _ both.0 (sym same)) in
      ((are.0.0, rw same are.0.1), are.1, still_there files both.1 are.2)

-- a file whose removal was tried is removed, or broken and closed

cleared_one : {one : ℕ} {change : Slot → Slot} {kept : List ℕ} {slot : Slot} → Tries one change kept
    → has_file slot.state ≡ true → Cleared slot (change slot)
cleared_one goes has = removed has
cleared_one (stays why) has = stuck why has

kept_has : {one : ℕ} {change : Slot → Slot} {kept : List ℕ} (left : List ℕ) (slot : Slot) → Tries one change kept
    → is_among one left ≡ false
    → has_file (change slot).state ≡ is_among one (kept ++ left)
kept_has left slot goes apart = sym apart
kept_has left slot (stays why) apart = search rules

kept_apart : {one : ℕ} {change : Slot → Slot} {kept : List ℕ} (left : List ℕ) (place : ℕ) → Tries one change kept
    → eqb place one ≡ false
    → is_among place (kept ++ left) ≡ is_among place left
kept_apart left place goes other = refl
kept_apart left place (stays why) other = search rules

-- One more removal, after the removals of other files

tried_more : {files left : List ℕ} {old mid new : List Slot} (place : ℕ) (more : List ℕ) → Removes files old left mid
    → Removes (place ∷ []) mid more new
    → Removes (files ++ place ∷ []) old (left ++ more) new
tried_more place more (all_tried slots) last = last
tried_more {new} place more (tried one places kept left' change old' mid' tries rest) last = rw (append_assoc kept left' more)
    (tried one (places ++ place ∷ []) kept (left' ++ more) change old' new tries (tried_more _ _ rest last))

-- the files before this place were tried, and the first `left` are those that couldn't be removed
pub record Sweeping (files now : List ℕ) (place left : ℕ) (old slots : List Slot) : Type 0 where
  pub size : length now ≡ length files
  pub few : left ≤ place
  pub tried : Removes (take place files) old (take left now) slots
  pub rest : drop place now ≡ drop place files
  pub are : AreThere (drop place files) slots

pub none_swept : {files : List ℕ} {slots : List Slot} → AreThere files slots → Sweeping files files 0 0 slots slots
none_swept {slots} are = record { size = refl; few = omega arith; tried = all_tried slots; rest = refl; are = are }

-- the next file was tried, and `next` is the list now
one_tried : {files now next kept : List ℕ} {place left few : ℕ} {old mid : List Slot} {file : ℕ} {change : Slot → Slot}
    → Sweeping files now place left old mid
    → place < length now → file ≡ get_or now place 0
    → length next ≡ length now → few ≤ suc left → drop (suc place) next ≡ drop (suc place) now
    → take few next ≡ take left now ++ kept → Tries file change kept
    → Sweeping files next (place + 1) few old (changed_at file change mid)
one_tried {files} {now} {next} {kept} {place} {left} {few} {old} {mid} {file} {change} so_far within file_is size fits rest front_is tries =
    let less : place < length files = omega arith in
    let front = sym (drop-cons now place 0 within) ∙ so_far.rest ∙ drop-cons files place 0 less in
    let same : file ≡ get_or files place 0 = grind arith in
    let are = rw (drop-cons files place 0 less ∙ ap (λ one. one ∷ drop (suc place) files) (sym same)) at so_far.are in
    rw (← (let e : suc place ≡ place + 1 = omega arith in e)) (record {
      size = size ∙ so_far.size;
      few = omega arith;
      tried = rw (front_is, take-suc files place 0 less, ← same) (tried_more _ _ so_far.tried
          (rw (append-nil kept) at (tried file [] kept [] change mid _ tries (all_tried _))));
      rest = rest ∙ ap (drop 1) front;
      are = grind (arith, still_there);
    })

-- the next file was tried; what the removal returned says what became of it
pub sweep_on : {files now : List ℕ} {place left file : ℕ} {old mid new : List Slot} (result : Result (Unit {0}) Fault)
    → Sweeping files now place left old mid → place < length now → file ≡ get_or now place 0 → is_ok result ≡ true
    → OnOk result (new ≡ changed_at file removes mid)
    → Sweeping files now (place + 1) left old new
sweep_on {now = now} {left = left} (Ok done) so_far within file_is ok gone =
    rw gone (one_tried so_far within file_is refl (omega arith) refl (sym (append-nil (take left now))) goes)
sweep_on (Err f) so_far within file_is ok gone = absurd (false≢true ok)

pub sweep_past : {files now : List ℕ} {place left file : ℕ} {old mid new : List Slot} (result : Result (Unit {0}) Fault)
    → Sweeping files now place left old mid → place < length now → file ≡ get_or now place 0 → is_ok result ≡ false
    → IfErr result (λ f. (f ≡ fault.Write file) × SlotBreaks file (changed_at file closes mid) new)
    → Sweeping files (set now left file) (place + 1) (left + 1) old new
sweep_past (Ok done) so_far within file_is failed stuck_so = search rules
sweep_past {files} {now} {place} {left} {file} (Err f) so_far within file_is failed (is, (why, stuck_so)) =
    rw (← (let e : suc left ≡ left + 1 = omega arith in e))
    (rw (stuck_so, changed_at-again _ _ _ _) (one_tried so_far within file_is (length-set now left file) (omega arith)
    (drop-set-lt (suc place) now left file (omega arith)) (take-suc-set now left file (omega arith)) (stays why)))

-- What was removed, slot by slot

pub same_size : (files left : List ℕ) (old new : List Slot) → Removes files old left new → length new ≡ length old
same_size files left old new (all_tried slots) = refl
same_size files left old new (tried place places kept left' change old' new' tries rest) = same_size _ _ _ _ rest ∙ length-changed_at _ _ _

pub others_same : {files left : List ℕ} {old new : List Slot} (place : ℕ) → Removes files old left new
    → is_among place files ≡ false → slot_at new place ≡ slot_at old place
others_same place (all_tried slots) apart = refl
others_same place (tried one places kept left' change old' new' tries rest) apart =
    let both = or_parts (eqb place one) (is_among place places) apart in others_same _ rest both.1 ∙ elsewhere one change old' place both.0

-- the files that are left are among those that were tried
pub left_apart : (files left : List ℕ) (old new : List Slot) (place : ℕ) → Removes files old left new
    → is_among place files ≡ false → is_among place left ≡ false
left_apart files left old new place (all_tried slots) apart = refl
left_apart files left old new place (tried one places kept left' change old' new' tries rest) apart =
    let both = or_parts (eqb place one) (is_among place places) apart in kept_apart _ _ tries both.0 ∙ left_apart _ _ _ _ _ rest both.1

-- the slot of the first file at the end
first_is : {one : ℕ} {places left : List ℕ} (change : Slot → Slot) (old : List Slot) {new : List Slot}
    → AreThere (one ∷ places) old
    → Removes places (changed_at one change old) left new → slot_at new one ≡ change (slot_at old one)
first_is {one} change old are rest = others_same _ rest are.1 ∙ there one change old are.0.1

-- each slot whose file is among these is cleared away
pub each_cleared : {files left : List ℕ} {old new : List Slot} (place : ℕ) → Removes files old left new
    → AreThere files old → has_file (slot_at old place).state ≡ is_among place files
    → Cleared (slot_at old place) (slot_at new place)
each_cleared place (all_tried slots) are has = none has
each_cleared place (tried one places kept left' change old' new' tries rest) are has = by_place place one
    (λ same. rw (same, first_is _ _ are rest) (cleared_one tries are.0.1)) (λ other. rw (elsewhere one change old' place other) at
    (each_cleared place rest (still_there _ _ _ _ are.1 are.2) (grind (arith, elsewhere))))

-- an output still has a file exactly if this file is left
pub left_has : (files left : List ℕ) (old new : List Slot) (place : ℕ) → Removes files old left new → AreThere files old
    → has_file (slot_at old place).state ≡ is_among place files
    → has_file (slot_at new place).state ≡ is_among place left
left_has files left old new place (all_tried slots) are has = has
left_has files left old new place (tried one places kept left' change old' new' tries rest) are has = by_place place one
    (λ same. rw (same, first_is _ _ are rest) (kept_has _ _ tries (left_apart _ _ _ _ _ rest are.1)))
    (λ other. left_has _ _ _ _ _ rest (still_there _ _ _ _ are.1 are.2) (grind (arith, elsewhere)) ∙ sym (kept_apart _ _ tries other))

pub left_there : (files left : List ℕ) (old new : List Slot) → Removes files old left new → AreThere files old
    → AreThere left new
left_there files left old new (all_tried slots) are = tt
left_there files left old new (tried one places kept left' change old' new' goes rest) are = left_there _ _ _ _ rest (still_there _ _ _ _ are.1 are.2)
left_there files left old new (tried one places kept left' change old' new' (stays why) rest) are = (
  (are.0.0, rw (first_is _ _ are rest) refl),
  left_apart _ _ _ _ _ rest are.1,
  left_there _ _ _ _ rest (still_there _ _ _ _ are.1 are.2),
)

-- all files from a place on are cleared away, if these are exactly the files to remove
pub all_cleared : (first : ℕ) (files left : List ℕ) (old new : List Slot) → Removes files old left new
    → AreThere files old → ((place : ℕ) → is_among place files ≡ true → first ≤ place)
    → ((place : ℕ) → first ≤ place → has_file (slot_at old place).state ≡ is_among place files)
    → SweptFrom first old new
all_cleared first files left old new done are from own = grind (arith, same_size, others_same, each_cleared)
