-- Lemmas on a run's start: files that are opened one after another, and the messages for those that could not be.
use Rattle.std.{
  proofs.lemmas.{
    Grind.common_steps,
    Bool.cases_lt,
    List.{append-nil, get_or-append-add, get_or_append_left, get_or_past, length-map, length-replicate},
  },
  proofs.Common.{◌≡◌, ℕ, ◌+◌, ◌-◌, ◌^◌, ◌<◌, ◌≤◌, zero, suc, List, [], ◌∷◌, ◌++◌, length, map, take, drop},
  proofs.Common.{get_or, Bor, true, false, inl, inr, refl, sym, ◌∙◌, ap, arith, append_assoc, length-append, replicate},
}
use Rattle.ports_core.specs.{
  Slot.{Slot, no_slot, slot_at, opened, unopened, is_open, FailsToOpen, broke, streams},
  declared.slot.Mode.Mode,
}
use Rattle.tee_core.{
  specs.{
    Opening.{OpensAs, is_opened, is_unopened, OpensEach, no_more, one_more, Opens, OpensSome},
    inner.{Opening.OpensOne, Steps.{HasStreams, IsTeeOf}},
    Outputs.{ChangesEach, IsOutput, IsReady, IsUsable},
    TeeState.TeeState,
    Run.{Copied, SaysTo, TeeRun, all_opened, said_since, standings_of, stands_as, started},
    Run.IsFileOf,
    declared.standing.Standing.{Standing, TheVariants.Sound},
  },
  proofs.CopyLemmas.mapped_at,
}
use Rattle.ports_core.specs.declared.fault.Fault.TheVariants as fault

-- one file

pub opened_one : {mode : Mode} {name : List ℕ} {old new : List Slot} → new ≡ old ++ opened name mode ∷ []
    → OpensOne mode name old new
opened_one {mode} {name} is = record { slot = opened name mode; opens = is_opened; slots = is }

pub in_vain : {mode : Mode} {name : List ℕ} {old new : List Slot} {slot : ℕ}
    → FailsToOpen old name new (fault.Open slot)
    → (slot ≡ length old) × OpensOne mode name old new
in_vain {slot} (broke _ kept why is named made) = (is, record { slot = unopened why kept; opens = is_unopened kept why named; slots = made })

-- one after another

pub opens_none : {mode : Mode} {slots : List Slot} → Opens mode [] slots slots
opens_none {slots} = record { since = []; each = no_more; slots = sym (append-nil slots) }

pub opens_next : {mode : Mode} {name : List ℕ} {names : List (List ℕ)} {old mid new : List Slot}
    → OpensOne mode name old mid → Opens mode names mid new → Opens mode (name ∷ names) old new
opens_next {name} {names} {old} one rest = record {
  since = one.slot ∷ rest.since;
  each = one_more name names one.slot rest.since one.opens rest.each;
  slots = rest.slots ∙ ap (λ front. front ++ rest.since) one.slots ∙ append_assoc old (one.slot ∷ []) rest.since;
}

pub some_none : {mode : Mode} {names : List (List ℕ)} {slots : List Slot} → OpensSome mode names slots slots
some_none {names} = record { first = []; rest = names; names_are = refl; opens = opens_none }

pub some_next : {mode : Mode} {name : List ℕ} {names : List (List ℕ)} {old mid new : List Slot}
    → OpensOne mode name old mid → OpensSome mode names mid new → OpensSome mode (name ∷ names) old new
some_next {name} one rest = record {
  first = name ∷ rest.first;
  rest = rest.rest;
  names_are = cc;
  opens = opens_next one rest.opens;
}

pub length-one : {mode : Mode} {name : List ℕ} {old new : List Slot} → OpensOne mode name old new
    → length new ≡ length old + 1
length-one {old} one = ap length one.slots ∙ length-append old (one.slot ∷ [])

-- how far the loop over the names has come
pub record Opening (mode : Mode) (names left : List (List ℕ)) (old now : List Slot) : Type 0 where
  pub whole : (new : List Slot) → Opens mode left now new → Opens mode names old new
  pub some : (new : List Slot) → OpensSome mode left now new → OpensSome mode names old new
  pub counts : length now + length left ≡ length old + length names
  pub small : length now ≤ 2 ^ 64

pub begins_opening : {mode : Mode} {names : List (List ℕ)} {slots : List Slot} → length slots ≤ 2 ^ 64
    → Opening mode names names slots slots
begins_opening small = record { whole = λ new opens. opens; some = λ new opens. opens; counts = refl; small = small }

pub opens_more : {mode : Mode} {names : List (List ℕ)} {name : List ℕ} {left : List (List ℕ)} {old now new : List Slot}
    {slot : ℕ} → Opening mode names (name ∷ left) old now → slot ≡ length now → slot < 2 ^ 64
    → OpensOne mode name now new → Opening mode names left old new
opens_more so_far number small one = record {
  whole = λ last opens. so_far.whole last (opens_next one opens);
  some = λ last opens. so_far.some last (some_next one opens);
  counts = omega (arith, length-one);
  small = omega (arith, length-one);
}

-- a tee can go on with what was opened

opened_usable : {mode : Mode} {name : List ℕ} {slot : Slot} → OpensAs mode name slot → IsUsable slot
opened_usable is_opened = λ sound. refl
opened_usable (is_unopened _ _ _) = λ sound. absurd (cc)

since_usable : {mode : Mode} (names : List (List ℕ)) (slots : List Slot) (place : ℕ) → OpensEach mode names slots
    → place < length slots → IsUsable (slot_at slots place)
since_usable [] [] place no_more within = absurd (omega arith)
since_usable _ _ zero (one_more name _ slot _ one _) within = opened_usable one
since_usable _ _ (suc place) (one_more name names slot slots one rest) within = since_usable names slots place rest (omega arith)

pub length-since : {mode : Mode} (names : List (List ℕ)) (slots : List Slot) → OpensEach mode names slots
    → length slots ≡ length names
length-since [] [] no_more = refl
length-since _ _ (one_more name names slot slots one rest) = ap suc (length-since names slots rest)

pub ready_to_go : {mode : Mode} {names : List (List ℕ)} {old new : List Slot} (tee : TeeState) → 0 < length old
    → is_open (slot_at old 0).state ≡ true → Opens mode names old new → tee.count ≡ length names
    → (0 < tee.count → tee.first ≡ length old) → IsReady tee new
ready_to_go {names} {old} {new} tee some standard opens count first place is = by is where
  by : IsOutput tee place → IsUsable (slot_at new place)
  by (inl here) = grind (arith, common_steps, get_or_append_left, some)
  by (inr file) =
      let start = first (omega arith) in let many = length-since names opens.since opens.each in
      let there : place ≡ length old + (place - length old) = omega arith in
      rw (ap (λ at. slot_at new at) there ∙ ap (λ those. slot_at those (length old + (place - length old))) opens.slots
      ∙ get_or-append-add old opens.since (place - length old) no_slot)
      (since_usable names opens.since (place - length old) opens.each (omega arith))

-- If names are as the code has them

pub none_left : {mode : Mode} (names : List (Bor (List ℕ))) {slots : List Slot} → length names < 1
    → Opens mode (map (λ name. name.now) names) slots slots
none_left [] few = opens_none
none_left (name ∷ names) few = absurd (omega arith)

pub first_and_rest : (other : Bor (List ℕ)) (names : List (Bor (List ℕ))) → 1 ≤ length names
    → map (λ name. name.now) names ≡ (get_or names 0 other).now ∷ map (λ name. name.now)
    (take (length names - 1) (drop 1 names))
first_and_rest other [] some = absurd (omega arith)
first_and_rest other (name ∷ names) some = grind (arith, common_steps)

pub opens_more_at : {mode : Mode} {names : List (List ℕ)} (other : Bor (List ℕ)) (left : List (Bor (List ℕ)))
    {old now new : List Slot} {slot : ℕ} → 1 ≤ length left → Opening mode names (map (λ name. name.now) left) old now
    → slot ≡ length now → slot < 2 ^ 64 → OpensOne mode (get_or left 0 other).now now new
    → Opening mode names (map (λ name. name.now) (take (length left - 1) (drop 1 left))) old new
opens_more_at other left some so_far number small one =
    opens_more (rw (first_and_rest other left some) at so_far) number small one

pub opens_next_at : {mode : Mode} (other : Bor (List ℕ)) (names : List (Bor (List ℕ))) {old mid new : List Slot}
    → 1 ≤ length names → OpensOne mode (get_or names 0 other).now old mid
    → Opens mode (map (λ name. name.now) (take (length names - 1) (drop 1 names))) mid new
    → Opens mode (map (λ name. name.now) names) old new
opens_next_at other names some one rest = rw (first_and_rest other names some) (opens_next one rest)

pub some_next_at : {mode : Mode} (other : Bor (List ℕ)) (names : List (Bor (List ℕ))) {old mid new : List Slot}
    → 1 ≤ length names → OpensOne mode (get_or names 0 other).now old mid
    → OpensSome mode (map (λ name. name.now) (take (length names - 1) (drop 1 names))) mid new
    → OpensSome mode (map (λ name. name.now) names) old new
some_next_at other names some one rest = rw (first_and_rest other names some) (some_next one rest)

pub some_now : {mode : Mode} {names : List (List ℕ)} {old new : List Slot} → new ≡ old → OpensSome mode names old new
some_now is = rw is (some_none)

-- the numbers of the files
pub in_range : {mode : Mode} {names : List (List ℕ)} {old new : List Slot} → Opens mode names old new
    → length new ≡ length old + length names
in_range opens = grind (arith, common_steps, length-since)

pub opened_streams : {mode : Mode} {names : List (List ℕ)} {slots : List Slot} → Opens mode names streams slots
    → HasStreams slots (length names)
opened_streams opens = grind (arith, common_steps, length-since)

-- the files begin as they are if each can be opened, or as outputs that are broken

opens_at : {mode : Mode} {names : List (List ℕ)} {slots : List Slot} (n : ℕ) → OpensEach mode names slots
    → n < length names → OpensAs mode (get_or names n []) (slot_at slots n)
opens_at n no_more within = absurd (omega arith)
opens_at zero (one_more name names slot slots one rest) within = one
opens_at (suc n) (one_more name names slot slots one rest) within = opens_at n rest (omega arith)

opened_all : (run : TeeRun) {mid : List Slot} → Opens run.mode run.names streams mid
    → ChangesEach (λ file now. OpensAs file.mode file.name now) (IsFileOf run.names) (all_opened run) mid
opened_all run {mid} opens = rw opens.slots (record {
  count = omega (arith, many, length-map run.names (λ name. opened name run.mode));
  each = each;
  others = others;
}) where
  many : length opens.since ≡ length run.names
  many = length-since run.names opens.since opens.each

  each : (place : ℕ) → IsFileOf run.names place
      → OpensAs (slot_at (all_opened run) place).mode (slot_at (all_opened run) place).name
      (slot_at (streams ++ opens.since) place)
  each zero file = absurd (omega (arith, file.0))
  each (suc zero) file = absurd (omega (arith, file.0))
  each (suc (suc n)) file = rw (mapped_at (λ name. opened name run.mode) run.names n (omega (arith, file.1)))
      (opens_at n opens.each (omega (arith, file.1)))

  others : (place : ℕ) → (IsFileOf run.names place → ⊥)
      → slot_at (streams ++ opens.since) place ≡ slot_at (all_opened run) place
  others zero none = refl
  others (suc zero) none = refl
  others (suc (suc n)) none = elim (cases_lt n (length run.names)) [
    | inl within ↦ absurd (none (omega arith, omega (arith, within)))
    | inr past ↦ get_or_past opens.since n no_slot (omega (arith, many, past)) ∙ sym
        (get_or_past (map (λ name. opened name run.mode) run.names) n no_slot (omega (arith, past, length-map run.names (λ name. opened name run.mode))))
  ]

stand_sound : (mode : Mode) (names : List (List ℕ))
    → map stands_as (map (λ name. opened name mode) names) ≡ replicate (length names) Sound
stand_sound mode [] = refl
stand_sound mode (name ∷ names) = cc (stand_sound mode names)

pub starts : (run : TeeRun) {old new : List Slot} {known : List Standing} → Opens run.mode run.names streams old
    → known ≡ replicate (length run.names + 1) Sound
    → SaysTo run (said_since run (fault.Open 0) known old (length known)) old new
    → Copied run [] new
starts run {old} {new} {known} opens unknown says = started new (record {
  mid = old;
  changes = opened_all run opens;
  said = rw (ap length unknown ∙ length-replicate (length run.names + 1) Sound, known_is) at says;
}) where
  known_is : known ≡ standings_of (all_opened run)
  known_is = unknown ∙ ap (λ n. replicate n Sound) (let e : length run.names + 1 ≡ suc (length run.names) = omega arith in e)
      ∙ sym (ap (λ those. Sound ∷ those) (stand_sound run.mode run.names))

pub length-names : (names : List (Bor (List ℕ))) {known : List Standing} → known ≡ replicate (length names + 1) Sound
    → known ≡ replicate (length (map (λ (name : Bor (List ℕ)). name.now) names) + 1) Sound
length-names names is = cc (length-map names (λ (name : Bor (List ℕ)). name.now))

pub is_tee_of : (names : List (Bor (List ℕ))) {old : List Slot} {tee : TeeState} → old ≡ streams → tee.is_over ≡ false
    → tee.count ≡ length names → (0 < tee.count → tee.first ≡ length old)
    → IsTeeOf (map (λ (name : Bor (List ℕ)). name.now) names) tee
is_tee_of names is live count first = grind (arith, common_steps)
