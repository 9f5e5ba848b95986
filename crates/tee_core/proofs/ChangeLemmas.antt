-- Lemmas on outputs of which some are changed, on what they get, and on how many broke.
use Rattle.std.proofs.{
  lemmas.{Grind.common_steps, Bool.{cases_eq, cases_lt, Decides.nat_tests}, List.take-append-le},
  Common.{◌≡◌, ℕ, ◌+◌, ◌<◌, ◌≤◌, zero, suc, List, [], ◌∷◌, length, Bool, true, false, not, ◌&&◌, if◌then◌else◌},
  Common.{◌⊎◌, inl, inr, refl, sym, ◌∙◌, ap, arith, ◌++◌, take, length-append},
  Math.Seq.take-append-add,
}
use Rattle.tee_core.specs.{
  inner.ChangesSome.ChangesSome,
  Outputs.{ChangesEach, newly_broken, Closes, Gets, gets_all, breaks_off, gets_none, is_closed, fails_to_close},
  Outputs.{was_broken, IsFile, IsOutput, IsUsable},
  TeeState.TeeState,
}
use Rattle.ports_core.{
  specs.{
    Slot.{Slot, slot_at, changed_at, is_open, adds, breaks, closes, visible_of, with_written, SlotBreaks},
    Write.BrokeAfter,
  },
  proofs.{SlotLemmas.{length-changed_at, slot_at-changed, slot_at-elsewhere, changed_at-again}, Runs.adds_both},
}

-- an output that is open is there
pub open_within : (slots : List Slot) (place : ℕ) → is_open (slot_at slots place).state ≡ true → place < length slots
open_within [] place opened = absurd (cc)
open_within (slot ∷ slots) zero opened = omega arith
open_within (slot ∷ slots) (suc place) opened = omega (arith, open_within slots place opened)

-- how many broke

-- what is broken stays broken
abbrev pub StayBroken : List Slot → List Slot → Type 0
StayBroken old new = (place : ℕ) → (slot_at old place).is_broken ≡ true → (slot_at new place).is_broken ≡ true

-- a change leaves broken what is broken
abbrev pub KeepsBroken : (Slot → Slot → Type 0) → Type 0
KeepsBroken Change = (before after : Slot) → Change before after → before.is_broken ≡ true → after.is_broken ≡ true

-- it is decided whether a place is one of these
abbrev pub IsDecided : (ℕ → Type 0) → Type 0
IsDecided IsOne = (place : ℕ) → IsOne place ⊎ (IsOne place → ⊥)

pub stay_broken : {Change : Slot → Slot → Type 0} {IsOne : ℕ → Type 0} {old new : List Slot}
    → KeepsBroken Change → IsDecided IsOne → ChangesEach Change IsOne old new → StayBroken old new
stay_broken {Change} {IsOne} {old} {new} stays decides changes = λ place broken. by place (decides place) broken where
  by : (place : ℕ) → IsOne place ⊎ (IsOne place → ⊥) → (slot_at old place).is_broken ≡ true
      → (slot_at new place).is_broken ≡ true
  by place (inl is) broken = grind (arith, common_steps)
  by place (inr differs) broken = grind (arith, common_steps)

pub is_between : (first end place : ℕ) → ((first ≤ place) × (place < end)) ⊎ ((first ≤ place) × (place < end) → ⊥)
is_between first end place = elim (cases_lt place first) [
  | inl before ↦ inr (λ is. omega arith)
  | inr from ↦ elim (cases_lt place end) [
    | inl within ↦ inl (from, within)
    | inr past ↦ inr (λ is. omega arith)
  ]
]

same_flag : (flag : Bool) {n m : ℕ} → n ≡ m → (if not flag && flag then 1 else 0) + n ≡ m
same_flag flag is = grind (arith, nat_tests)

pub newly_none : (slots : List Slot) → newly_broken slots slots ≡ 0
newly_none [] = refl
newly_none (slot ∷ slots) = same_flag slot.is_broken (newly_none slots)

pub newly_one : (place : ℕ) (change : Slot → Slot) (old : List Slot) {flag : Bool} → place < length old
    → (slot_at old place).is_broken ≡ false → (change (slot_at old place)).is_broken ≡ flag
    → newly_broken old (changed_at place change old) ≡ (if flag then 1 else 0)
newly_one place change [] within sound is = absurd (omega arith)
newly_one zero change (slot ∷ slots) within sound is = grind (arith, nat_tests, sound, is, newly_none slots)
newly_one (suc place) change (slot ∷ slots) within sound is = same_flag slot.is_broken (newly_one place change slots (omega arith) sound is)

in_two : {a b c : Bool} → (a ≡ true → b ≡ true) → (b ≡ true → c ≡ true)
    → (if not a && c then 1 else 0) ≡ (if not a && b then 1 else 0) + (if not b && c then 1 else 0)
in_two ab bc = grind (arith, nat_tests, ab, bc)

-- one stretch after another
pub newly_in_two : (old mid new : List Slot) → length mid ≡ length old → length new ≡ length mid → StayBroken old mid
    → StayBroken mid new → newly_broken old new ≡ newly_broken old mid + newly_broken mid new
newly_in_two [] [] [] count_mid count_new first second = refl
newly_in_two (o ∷ olds) (m ∷ mids) (n ∷ news) count_mid count_new first second =
    omega (
      arith,
      in_two (first 0) (second 0),
      newly_in_two olds mids news (omega arith) (omega arith)
          (λ place broken. first (suc place) broken) (λ place broken. second (suc place) broken),
    )
newly_in_two old mid new count_mid count_new first second = absurd (omega arith)

pub turned_none : {Change : Slot → Slot → Type 0} {IsOne : ℕ → Type 0} {slots : List Slot}
    → ((place : ℕ) → IsOne place → ⊥) → ChangesSome Change IsOne slots slots 0
turned_none none = grind (arith, common_steps, newly_none)

pub turned_same : {Change : Slot → Slot → Type 0} (place : ℕ) {slots : List Slot}
    → Change (slot_at slots place) (slot_at slots place) → ChangesSome Change (λ other. other ≡ place) slots slots 0
turned_same place changes = grind (arith, common_steps, newly_none)

pub turned_one : {Change : Slot → Slot → Type 0} (place : ℕ) (change : Slot → Slot) {flag : Bool} {old new : List Slot}
    → place < length old → (slot_at old place).is_broken ≡ false → (change (slot_at old place)).is_broken ≡ flag
    → Change (slot_at old place) (change (slot_at old place)) → new ≡ changed_at place change old
    → ChangesSome Change (λ other. other ≡ place) old new (if flag then 1 else 0)
turned_one place change within sound breaks changes is =
    grind (arith, common_steps, length-changed_at, slot_at-changed, slot_at-elsewhere, newly_one)

pub turned_both : {Change : Slot → Slot → Type 0} {IsOne IsOther IsEither : ℕ → Type 0} {old mid new : List Slot}
    (broke more : ℕ) → KeepsBroken Change → IsDecided IsOne → IsDecided IsOther
    → ((place : ℕ) → IsOne place → IsOther place → ⊥) → ((place : ℕ) → IsOne place ⊎ IsOther place → IsEither place)
    → ((place : ℕ) → IsEither place → IsOne place ⊎ IsOther place)
    → ChangesSome Change IsOne old mid broke → ChangesSome Change IsOther mid new more
    → ChangesSome Change IsEither old new (broke + more)
turned_both {Change} {IsOne} {IsOther} {old} {mid} {new} broke more stays first_is second_is apart to from first second = record {
  changes = record {
    count = cc;
    each = λ place is. by place (from place is);
    others = grind (arith, common_steps, to);
  };
  broke_are = sym (newly_in_two old mid new first.changes.count second.changes.count (stay_broken stays first_is first.changes)
      (stay_broken stays second_is second.changes)
      ∙ ap (λ n. n + newly_broken mid new) (sym first.broke_are) ∙ ap (λ n. broke + n) (sym second.broke_are));
} where
  by : (place : ℕ) → IsOne place ⊎ IsOther place → Change (slot_at old place) (slot_at new place)
  by place (inl is) = grind (arith, common_steps)
  by place (inr is) = grind (arith, common_steps)

-- the loops go over the files from the first on

pub record InTurn (Change : Slot → Slot → Type 0) (first n : ℕ) (old now : List Slot) (broke : ℕ) : Type 0 where
  pub turned : ChangesSome Change (λ place. (first ≤ place) × (place < first + n)) old now broke
  pub few : broke ≤ n

pub none_in_turn : {Change : Slot → Slot → Type 0} {first : ℕ} {slots : List Slot} → InTurn Change first 0 slots slots 0
none_in_turn = record { turned = turned_none (λ place is. omega arith); few = omega arith }

pub next_in_turn : {Change : Slot → Slot → Type 0} (first n broke more : ℕ) (old now new : List Slot)
    → KeepsBroken Change → InTurn Change first n old now broke
    → ChangesSome Change (λ place. place ≡ first + n) now new more → more ≤ 1
    → InTurn Change first (n + 1) old new (broke + more)
next_in_turn first n broke more old now new stays so_far turned one = record {
  turned = turned_both broke more stays (is_between first (first + n)) (λ place. cases_eq place (first + n))
      (λ place is other. omega arith) to from so_far.turned turned;
  few = omega arith;
} where
  to : (place : ℕ) → ((first ≤ place) × (place < first + n)) ⊎ (place ≡ first + n)
      → (first ≤ place) × (place < first + (n + 1))
  to place (inl is) = (is.0, omega arith)
  to place (inr is) = (omega arith, omega arith)

  from : (place : ℕ) → (first ≤ place) × (place < first + (n + 1))
      → ((first ≤ place) × (place < first + n)) ⊎ (place ≡ first + n)
  from place is = grind (arith, common_steps, cases_lt)

-- one output

pub gets_more : (visible : Bool) {x y : List ℕ} {old mid new : Slot} → Gets visible x old mid → Gets visible y mid new
    → Gets visible (x ++ y) old new
gets_more visible {x} {y} {old} (gets_all sound) (gets_all _) = rw (adds_both visible x y old) (gets_all sound)
gets_more visible {x} {y} {old} (gets_all sound) (breaks_off again n why within) =
    rw (← (ap (λ bytes. breaks why (adds (visible_of visible bytes) old)) (take-append-add x y n) ∙ sym (ap (breaks why) (adds_both visible x (take n y) old))))
    (breaks_off sound (length x + n) why (omega (arith, length-append x y)))
gets_more visible (gets_all sound) (gets_none broken) = absurd (cc)
gets_more visible (breaks_off _ n _ _) (gets_all again) = absurd (cc)
gets_more visible (breaks_off _ n _ _) (breaks_off again m _ _) = absurd (cc)
gets_more visible {x} {y} {old} (breaks_off sound n why within) (gets_none broken) =
    rw (← (ap (λ bytes. breaks why (adds (visible_of visible bytes) old)) (take-append-le n x y (omega arith))))
    (breaks_off sound n why (omega (arith, length-append x y)))
gets_more visible (gets_none broken) (gets_all again) = absurd (cc)
gets_more visible (gets_none broken) (breaks_off again m _ _) = absurd (cc)
gets_more visible (gets_none broken) (gets_none _) = gets_none broken

pub still_broken : (visible : Bool) {bytes : List ℕ} (old new : Slot) → Gets visible bytes old new
    → old.is_broken ≡ true
    → new.is_broken ≡ true
still_broken visible old _ (gets_all _) broken = broken
still_broken visible old _ (breaks_off _ n _ _) broken = refl
still_broken visible old _ (gets_none _) broken = broken

pub closed_broken : (old new : Slot) → Closes old new → old.is_broken ≡ true → new.is_broken ≡ true
closed_broken old _ (is_closed _) broken = broken
closed_broken old _ (fails_to_close _ _) broken = refl
closed_broken old _ (was_broken was) broken = broken

still_usable : (visible : Bool) {bytes : List ℕ} {old new : Slot} → Gets visible bytes old new → IsUsable old
    → IsUsable new
still_usable visible (gets_all _) usable = usable
still_usable visible (breaks_off sound n _ _) usable = λ sound. absurd (cc)
still_usable visible (gets_none _) usable = usable

-- an output that is sound after it got all
pub sound_gets : (visible : Bool) {bytes : List ℕ} {old new : Slot} → Gets visible bytes old new → new.is_broken ≡ false
    → new ≡ adds (visible_of visible bytes) old
sound_gets visible (gets_all _) still = refl
sound_gets visible (breaks_off _ n _ _) still = absurd (cc)
sound_gets visible (gets_none broken) still = absurd (cc)

-- the outputs of a tee

pub all_get_more : {IsOne : ℕ → Type 0} (visible : Bool) {x y : List ℕ} {old mid new : List Slot}
    → ChangesEach (Gets visible x) IsOne old mid → ChangesEach (Gets visible y) IsOne mid new
    → ChangesEach (Gets visible (x ++ y)) IsOne old new
all_get_more visible first second = grind (arith, common_steps, gets_more)

pub all_still_usable : {IsOne : ℕ → Type 0} (visible : Bool) {bytes : List ℕ} {old new : List Slot}
    → ChangesEach (Gets visible bytes) IsOne old new → ((place : ℕ) → IsOne place → IsUsable (slot_at old place))
    → (place : ℕ) → IsOne place → IsUsable (slot_at new place)
all_still_usable visible gets usable place is = still_usable visible (gets.each place is) (usable place is)

-- one output's turn

pub left_out : (visible : Bool) {piece : List ℕ} {place : ℕ} {slots : List Slot}
    → (slot_at slots place).is_broken ≡ true
    → ChangesSome (Gets visible piece) (λ other. other ≡ place) slots slots 0
left_out visible {place} broken = turned_same place (gets_none broken)

pub not_closed : {place : ℕ} {slots : List Slot} → (slot_at slots place).is_broken ≡ true
    → ChangesSome Closes (λ other. other ≡ place) slots slots 0
not_closed {place} broken = turned_same place (was_broken broken)

module _ {place : ℕ} {old : List Slot} (usable : IsUsable (slot_at old place))
    (sound : (slot_at old place).is_broken ≡ false) where
  pub written_whole : (visible : Bool) {piece : List ℕ} {new : List Slot}
      → new ≡ with_written place (visible_of visible piece) old
      → ChangesSome (Gets visible piece) (λ other. other ≡ place) old new 0
  written_whole visible {piece} is =
      turned_one place (adds (visible_of visible piece)) (open_within old place (usable sound)) sound sound (gets_all sound) is

  pub written_short : (visible : Bool) {piece : List ℕ} {n : ℕ} {new : List Slot}
      → BrokeAfter visible old new place piece n
      → ChangesSome (Gets visible piece) (λ other. other ≡ place) old new 1
  written_short visible {piece} {n} broke =
      let (why, slots) = broke.slots in
      let takes = adds (visible_of visible (take n piece)) in
      turned_one place (λ slot. breaks why (takes slot)) (open_within old place (usable sound)) sound refl
      (breaks_off sound n why broke.within) (slots ∙ changed_at-again place takes (breaks why) old)

  pub closed_whole : {new : List Slot} → new ≡ changed_at place closes old
      → ChangesSome Closes (λ other. other ≡ place) old new 0
  closed_whole is = turned_one place closes (open_within old place (usable sound)) sound sound (is_closed sound) is

  pub closed_short : {new : List Slot} → SlotBreaks place (changed_at place closes old) new
      → ChangesSome Closes (λ other. other ≡ place) old new 1
  closed_short (why, is) =
      turned_one place (λ slot. breaks why (closes slot)) (open_within old place (usable sound)) sound refl
      (fails_to_close sound why) (is ∙ changed_at-again place closes (breaks why) old)

-- standard output, and then the files
pub fed : (visible : Bool) {piece : List ℕ} (tee : TeeState) (broke more : ℕ) {old mid new : List Slot}
    → (0 < tee.count → 2 ≤ tee.first) → ChangesSome (Gets visible piece) (λ place. place ≡ 0) old mid broke
    → ChangesSome (Gets visible piece) (IsFile tee) mid new more
    → ChangesSome (Gets visible piece) (IsOutput tee) old new (broke + more)
fed visible tee broke more streams first second =
    turned_both broke more (still_broken visible) (λ place. cases_eq place 0) (is_between tee.first (tee.first + tee.count))
    (λ place is file. omega (arith, streams (omega (arith, file.0, file.1)))) (λ place is. is) (λ place is. is) first second
