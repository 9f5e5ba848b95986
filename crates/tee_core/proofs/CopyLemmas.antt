-- Lemmas on copying, step by step: what the outputs have, and what standard error has if none broke.
use Rattle.std.{
  proofs.lemmas.{Bool.{cases_lt, false≢true}, List.{Folds.concat-append, length-map}},
  proofs.Common.{◌≡◌, ◌⊎◌, ℕ, ◌+◌, ◌<◌, ◌≤◌, zero, suc, List, [], ◌∷◌, ◌++◌, length, map, replicate, get_or, Bool},
  proofs.Common.{take, true, false, refl, sym, subst, ◌∙◌, ap, arith, inl, inr, append-nil, append_assoc},
  specs.List.concat,
}
use Rattle.ports_core.specs.{
  Slot.{Slot, adds, breaks, is_open, opened, slot_at, visible_of, unopened},
  Message.Report,
  declared.{on_broken.OnBroken.OnBroken, fault.Fault.Fault, reason.Reason.Reason, slot.Mode.Mode},
  Streams.{standard_error, standard_output},
}
use Rattle.engine_core.specs.Written.{IsBeginning}
use Rattle.ports_core.proofs.{
  MessageLemmas.each_state,
  Runs.{adds_both, adds-nil},
  SlotLemmas.{length-changed_at, slot_at-changed, slot_at-elsewhere},
}
use Rattle.engine_core.proofs.WrittenLemmas.{take_begins_after}
use Rattle.tee_core.specs.{
  Opening.{OpensAs, is_opened, is_unopened},
  Outputs.{ChangesEach, Gets, gets_all, breaks_off, gets_none, IsFile, IsOutput, IsReady, IsUsable},
  Run.{AreSound, Copied, SaysTo, Step, TeeRun, all_opened, one_more, said_since, standings_of},
  Run.{IsFileOf, IsOutputOf, output_at, output_slot, stands_as, started, tee_called, tells},
  inner.Steps.{HasStreams, IsTeeOf},
  TeeState.TeeState,
  declared.standing.Standing.{Standing, TheVariants.{Sound}},
}
use Rattle.tee_core.proofs.TellLemmas.{count_standings, input_silent}
use Rattle.tee_core.proofs.ChangeLemmas.{IsDecided, KeepsBroken, stay_broken, still_broken}

-- which slots are outputs

pub output_decided : (names : List (List ℕ)) → IsDecided (IsOutputOf names)
output_decided names zero = inl (λ is. omega (arith, is), omega arith)
output_decided names (suc zero) = inr (λ is. is.0 refl)
output_decided names (suc (suc n)) = elim (cases_lt (suc (suc n)) (length names + 2)) [
  | inl within ↦ inl (λ is. omega (arith, is), within)
  | inr past ↦ inr (λ is. omega (arith, past, is.1))
]

changes_as : {Change : Slot → Slot → Type 0} {IsOne IsOther : ℕ → Type 0} {old new : List Slot}
    → ((place : ℕ) → IsOne place → IsOther place) → ((place : ℕ) → IsOther place → IsOne place)
    → ChangesEach Change IsOne old new → ChangesEach Change IsOther old new
changes_as to from changes = record {
  count = changes.count;
  each = λ place is. changes.each place (from place is);
  others = λ place none. changes.others place (λ is. none (to place is));
}

module _ {names : List (List ℕ)} {tee : TeeState} (is : IsTeeOf names tee) where
  file_to : (place : ℕ) → IsFile tee place → IsFileOf names place
  file_to place file =
      let count = is.count in let first : tee.first ≡ 2 = is.first (omega (arith, file.0, file.1)) in
      (omega (arith, first, file.0), omega (arith, first, count, file.1))

  file_from : (place : ℕ) → IsFileOf names place → IsFile tee place
  file_from place file =
      let count = is.count in let first : tee.first ≡ 2 = is.first (omega (arith, count, file.0, file.1)) in
      (omega (arith, first, file.0), omega (arith, first, count, file.1))

  output_to : (place : ℕ) → IsOutput tee place → IsOutputOf names place
  output_to place (inl here) = (λ is. omega (arith, here, is), omega (arith, here))
  output_to place (inr file) = let there = file_to place file in (λ is. omega (arith, there.0, is), there.1)

  output_from : (place : ℕ) → IsOutputOf names place → IsOutput tee place
  output_from zero there = inl refl
  output_from (suc zero) there = absurd (there.0 refl)
  output_from (suc (suc n)) there = inr (file_from (suc (suc n)) (omega arith, there.1))

  pub files_changed : {Change : Slot → Slot → Type 0} {old new : List Slot} → ChangesEach Change (IsFile tee) old new
      → ChangesEach Change (IsFileOf names) old new
  files_changed changes = changes_as file_to file_from changes

  pub outputs_changed : {Change : Slot → Slot → Type 0} {old new : List Slot}
      → ChangesEach Change (IsOutput tee) old new → ChangesEach Change (IsOutputOf names) old new
  outputs_changed changes = changes_as output_to output_from changes

-- standard error is changed alone

module _ {run : TeeRun} {reports : List Report} {old new : List Slot} (says : SaysTo run reports old new) where
  pub said_count : length new ≡ length old
  said_count = ap length says.slots ∙ length-changed_at 1 (λ _. says.error) old

  pub said_place : (place : ℕ) → (place ≡ 1 → ⊥) → slot_at new place ≡ slot_at old place
  said_place place differs =
      ap (λ those. slot_at those place) says.slots ∙ slot_at-elsewhere 1 place (λ _. says.error) old differs

  pub said_error : 1 < length old → slot_at new 1 ≡ says.error
  said_error within = ap (λ those. slot_at those 1) says.slots ∙ slot_at-changed 1 (λ _. says.error) old within

  said_open : 1 < length old → is_open (slot_at old 1).state ≡ true → is_open (slot_at new 1).state ≡ true
  said_open within opened = ap (λ slot. is_open slot.state) (said_error within)
      ∙ ap is_open (each_state run.visible (tee_called run.calling) reports (slot_at old 1) says.error says.said) ∙ opened

  pub standings_said : {count : ℕ} → HasStreams old count → standings_of new ≡ standings_of old
  standings_said has = rw (says.slots, has.are) refl

pub streams_of : {slots : List Slot} {count : ℕ} → length slots ≡ count + 2 → is_open (slot_at slots 1).state ≡ true
    → HasStreams slots count
streams_of {slots = output ∷ error ∷ files} many opened = record {
  output = output;
  error = error;
  files = files;
  are = refl;
  opened = opened;
  files_are = omega arith;
}
streams_of many opened = absurd (omega arith)

pub streams_count : {slots : List Slot} {count : ℕ} → HasStreams slots count → length slots ≡ count + 2
streams_count has = omega (arith, ap length has.are, has.files_are)

streams_open : {slots : List Slot} {count : ℕ} → HasStreams slots count → is_open (slot_at slots 1).state ≡ true
streams_open has = ap (λ those. is_open (slot_at those 1).state) has.are ∙ has.opened

pub streams_kept : {old new : List Slot} {count : ℕ} → HasStreams old count → length new ≡ length old
    → slot_at new 1 ≡ slot_at old 1 → HasStreams new count
streams_kept has many same =
    streams_of (many ∙ streams_count has) (ap (λ slot. is_open slot.state) same ∙ streams_open has)

pub streams_said : {run : TeeRun} {reports : List Report} {old new : List Slot} {count : ℕ} → HasStreams old count
    → SaysTo run reports old new → HasStreams new count
streams_said has says = streams_of (said_count says ∙ streams_count has)
    (said_open says (omega (arith, streams_count has)) (streams_open has))

pub streams_next : {run : TeeRun} {fault : Fault} {Change : Slot → Slot → Type 0} {IsOne : ℕ → Type 0}
    {old new : List Slot} {count : ℕ} → HasStreams old count → (IsOne 1 → ⊥) → Step run fault Change IsOne old new
    → HasStreams new count
streams_next has apart step =
    streams_said (streams_kept has step.changes.count (step.changes.others 1 apart)) step.said

-- a call changed outputs, and what broke in it was reported
pub stepped : {run : TeeRun} {fault : Fault} {Change : Slot → Slot → Type 0} {IsOne : ℕ → Type 0}
    {old mid new : List Slot} {known nows : List Standing} → HasStreams old (length run.names) → (IsOne 1 → ⊥)
    → known ≡ standings_of old → ChangesEach Change IsOne old mid → nows ≡ standings_of mid
    → SaysTo run (said_since run fault known mid (length known)) mid new
    → Step run fault Change IsOne old new × (nows ≡ standings_of new)
stepped {mid = mid} has apart seen changes sees says = (
  record { mid = mid; changes = changes; said = rw (ap length seen ∙ count_standings has, seen) at says },
  sees ∙ sym (standings_said says (streams_kept has changes.count (changes.others 1 apart))),
)

-- one output

-- What an output has of the bytes x, by how it began: all; or it couldn't be opened; or it broke, and has a beginning.
pub data Has (visible : Bool) (x : List ℕ) (start : Slot) : Slot → Type 0 where
  has_all : Has visible x start (adds (visible_of visible x) start)
  has_none : (kept : List ℕ) (why : Reason) → (kept ≡ start.name) ⊎ (kept ≡ [])
      → Has visible x start (unopened why kept)
  has_begun : (y : List ℕ) (why : Reason) → IsBeginning y x
      → Has visible x start (breaks why (adds (visible_of visible y) start))

has_nothing : (visible : Bool) (start : Slot) → Has visible [] start start
has_nothing visible start = subst (λ slot. Has visible [] start slot) (adds-nil visible start) has_all

has_opened : (visible : Bool) {mode : Mode} {name : List ℕ} {now : Slot} → OpensAs mode name now
    → Has visible [] (opened name mode) now
has_opened visible {mode} {name} is_opened = has_nothing visible (opened name mode)
has_opened visible (is_unopened kept why named) = has_none kept why named

has_more : {visible : Bool} {x y : List ℕ} {start old new : Slot} → start.is_broken ≡ false → Has visible x start old
    → Gets visible y old new → Has visible (x ++ y) start new
has_more {visible} {x} {y} {start} sound has_all (gets_all _) = rw (adds_both visible x y start) has_all
has_more {visible} {x} {y} {start} sound has_all (breaks_off _ n why within) =
    rw (ap (breaks why) (adds_both visible x (take n y) start)) (has_begun (x ++ take n y) why (take_begins_after n x y))
has_more sound has_all (gets_none broken) = absurd (false≢true (sym sound ∙ broken))
has_more sound (has_none kept why named) (gets_none _) = has_none kept why named
has_more {y = y} sound (has_begun z why (rest, is)) (gets_none _) = has_begun z why (rest ++ y, rw (is, append_assoc))
has_more sound has (gets_all again) = absurd (cc)
has_more sound has (breaks_off again n why within) = absurd (cc)

pub has_sound : {visible : Bool} {x : List ℕ} {start slot : Slot} → Has visible x start slot → slot.is_broken ≡ false
    → slot ≡ adds (visible_of visible x) start
has_sound has_all sound = refl
has_sound has sound = absurd (cc)

has_usable : {visible : Bool} {x : List ℕ} {start slot : Slot} → is_open start.state ≡ true → Has visible x start slot
    → IsUsable slot
has_usable opened has_all sound = opened
has_usable opened has sound = absurd (cc)

-- all outputs

-- the output of this number as it begins, if it can be opened
abbrev pub start_of : TeeRun → ℕ → Slot
start_of run zero = standard_output
start_of run (suc n) = opened (get_or run.names n []) run.mode

pub starts_well : (run : TeeRun) (n : ℕ) → ((start_of run n).is_broken ≡ false)
    × (is_open (start_of run n).state ≡ true) × ((start_of run n).written ≡ [])
starts_well run zero = (refl, refl, refl)
starts_well run (suc n) = (refl, refl, refl)

pub mapped_at : (f : List ℕ → Slot) (names : List (List ℕ)) (n : ℕ) → n < length names
    → slot_at (map f names) n ≡ f (get_or names n [])
mapped_at f [] n within = absurd (omega arith)
mapped_at f (name ∷ names) zero within = refl
mapped_at f (name ∷ names) (suc n) within = mapped_at f names n (omega arith)

pub output_of : (names : List (List ℕ)) (n : ℕ) → n ≤ length names → IsOutputOf names (output_slot n)
output_of names zero within = (λ is. omega (arith, is), omega arith)
output_of names (suc n) within = (λ is. omega (arith, is), omega (arith, within))

-- both streams are there, and each output has what it can have of x
pub record Stands (run : TeeRun) (x : List ℕ) (slots : List Slot) : Type 0 where
  pub count : length slots ≡ length run.names + 2
  pub opened : is_open (slot_at slots 1).state ≡ true
  pub each : (n : ℕ) → n ≤ length run.names → Has run.visible x (start_of run n) (output_at slots n)

module _ {run : TeeRun} {x : List ℕ} {slots : List Slot} (stands : Stands run x slots) where
  pub stands_streams : HasStreams slots (length run.names)
  stands_streams = streams_of stands.count stands.opened

  pub stands_ready : {tee : TeeState} → IsTeeOf run.names tee → IsReady tee slots
  stands_ready is zero output = has_usable (starts_well run 0).1 (stands.each 0 (omega arith))
  stands_ready is (suc zero) output = absurd ((output_to is 1 output).0 refl)
  stands_ready is (suc (suc n)) output =
      let there = output_to is (suc (suc n)) output in
      has_usable (starts_well run (suc n)).1 (stands.each (suc n) (omega (arith, there.1)))

  pub stands_said : {reports : List Report} {new : List Slot} → SaysTo run reports slots new → Stands run x new
  stands_said says = record {
    count = said_count says ∙ stands.count;
    opened = said_open says (omega (arith, stands.count)) stands.opened;
    each = λ n within. rw (said_place says (output_slot n) (output_of run.names n within).0) (stands.each n within);
  }

pub joined_more : (pieces : List (List ℕ)) (piece : List ℕ) → concat pieces ++ piece ≡ concat (pieces ++ piece ∷ [])
joined_more pieces piece = cc (concat-append pieces (piece ∷ []), append-nil piece)

opened_first : (run : TeeRun) {mid : List Slot}
    → ChangesEach (λ file now. OpensAs file.mode file.name now) (IsFileOf run.names) (all_opened run) mid
    → Stands run [] mid
opened_first run {mid} changes = record {
  count = changes.count ∙ omega (arith, length-map run.names (λ name. opened name run.mode));
  opened = ap (λ slot. is_open slot.state) (changes.others 1 (λ file. omega (arith, file.0)));
  each = by;
} where
  by : (n : ℕ) → n ≤ length run.names → Has run.visible [] (start_of run n) (output_at mid n)
  by zero within = rw (changes.others 0 (λ file. omega (arith, file.0))) (has_nothing run.visible standard_output)
  by (suc n) within = has_opened run.visible (rw (mapped_at (λ name. opened name run.mode) run.names n within) at
      (changes.each (suc (suc n)) (omega arith, omega (arith, within))))

copied_more : {run : TeeRun} {x piece : List ℕ} {old mid : List Slot} → Stands run x old
    → ChangesEach (Gets run.visible piece) (IsOutputOf run.names) old mid → Stands run (x ++ piece) mid
copied_more {run} stands changes = record {
  count = changes.count ∙ stands.count;
  opened = ap (λ slot. is_open slot.state) (changes.others 1 (λ is. is.0 refl)) ∙ stands.opened;
  each = λ n within. has_more (starts_well run n).0 (stands.each n within) (changes.each (output_slot n) (output_of run.names n within));
}

pub stands_of : {run : TeeRun} {pieces : List (List ℕ)} {slots : List Slot} → Copied run pieces slots
    → Stands run (concat pieces) slots
stands_of {run} (started new step) = stands_said (opened_first run step.changes) step.said
stands_of (one_more pieces piece old new so_far goes some few step) =
    rw (← (joined_more pieces piece)) (stands_said (copied_more (stands_of so_far) step.changes) step.said)

-- if no output broke

sound_files : (files : List Slot) → ((n : ℕ) → (slot_at files n).is_broken ≡ false)
    → map stands_as files ≡ replicate (length files) Sound
sound_files [] sound = refl
sound_files (file ∷ files) sound = cc (sound 0, sound_files files (λ n. sound (suc n)))

pub sound_stand : {slots : List Slot} {count : ℕ} → HasStreams slots count → AreSound slots
    → standings_of slots ≡ Sound ∷ replicate count Sound
sound_stand has sound =
    let those = rw has.are at sound in
    rw (has.are, those 0 (λ is. omega (arith, is)), sound_files has.files (λ n. those (suc (suc n)) (λ is. omega (arith, is))), has.files_are) refl

quiet_at : (on_broken : OnBroken) (was : Standing) → tells on_broken was Sound ≡ false
quiet_at on_broken Sound = refl
quiet_at on_broken was = refl

sound_at : (slots : List Slot) → AreSound slots → (n : ℕ) → (output_at slots n).is_broken ≡ false
sound_at slots sound zero = sound 0 (λ is. omega (arith, is))
sound_at slots sound (suc n) = sound (suc (suc n)) (λ is. omega (arith, is))

quiet_since : (run : TeeRun) (fault : Fault) (known : List Standing) (slots : List Slot) → AreSound slots → (n : ℕ)
    → said_since run fault known slots n ≡ []
quiet_since run fault known slots sound zero = refl
quiet_since run fault known slots sound (suc n) = rw (
  quiet_since run fault known slots sound n,
  sound_at slots sound n,
  quiet_at run.on_broken (get_or known n Sound),
) refl

-- a step in which no output breaks
pub sound_step : {run : TeeRun} {fault : Fault} {Change : Slot → Slot → Type 0} {IsOne : ℕ → Type 0}
    {old new : List Slot} {count : ℕ} → HasStreams new count → AreSound new → ChangesEach Change IsOne old new
    → Step run fault Change IsOne old new
sound_step {run} {fault} {old = old} {new} has sound changes = record {
  mid = new;
  changes = changes;
  said = rw (quiet_since run fault (standings_of old) new sound (length run.names + 1)) (input_silent run has);
}

-- a step after which no output is broken
module _ {run : TeeRun} {fault : Fault} {Change : Slot → Slot → Type 0} {IsOne : ℕ → Type 0}
    {old new : List Slot} (step : Step run fault Change IsOne old new) (sound : AreSound new) where
  sound_mid : AreSound step.mid
  sound_mid place differs = rw (said_place step.said place differs) at (sound place differs)

  pub sound_old : KeepsBroken Change → IsDecided IsOne → AreSound old
  sound_old stays decides place differs = by (slot_at old place).is_broken refl where
    by : (broken : Bool) → (slot_at old place).is_broken ≡ broken → broken ≡ false
    by false is = refl
    by true is = sym (stay_broken stays decides step.changes place is) ∙ sound_mid place differs

  pub sound_error : {count : ℕ} → HasStreams step.mid count → (IsOne 1 → ⊥) → slot_at new 1 ≡ slot_at old 1
  sound_error has apart =
      let silent = rw (quiet_since run fault (standings_of old) step.mid sound_mid (length run.names + 1)) at step.said.said in
      said_error step.said (omega (arith, streams_count has)) ∙ silent ∙ step.changes.others 1 apart

pub sound_said : {run : TeeRun} {pieces : List (List ℕ)} {slots : List Slot} → Copied run pieces slots
    → AreSound slots → slot_at slots 1 ≡ standard_error
sound_said {run} (started new step) sound =
    sound_error step sound (stands_streams (opened_first run step.changes)) (λ file. omega (arith, file.0))
sound_said {run} (one_more pieces piece old new so_far goes some few step) sound =
    sound_error step sound (stands_streams (copied_more (stands_of so_far) step.changes)) (λ is. is.0 refl)
    ∙ sound_said so_far (sound_old step sound (still_broken run.visible) (output_decided run.names))
