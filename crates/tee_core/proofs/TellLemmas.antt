-- Lemmas on what is reported of outputs that broke, and on the loop that does it.
use Rattle.std.{
  proofs.lemmas.{Grind.common_steps, Bool.cond_both, List.{append-nil, length-map}},
  proofs.Common.{◌≡◌, ℕ, ◌+◌, ◌<◌, zero, suc, List, [], ◌∷◌, ◌++◌, length, take, drop, codes, get_or, set, true},
  proofs.Common.{false, refl, sym, ◌∙◌, ap, arith, Option, Some},
  proofs.Math.ListN.get_or-map,
}
use Rattle.ports_core.specs.{
  Slot.{Slot, changed_at, no_slot, slot_at, is_open},
  Source.Source,
  Text.message_of,
  Message.{Report, SaysOn},
  declared.{reason.Reason.Reason, fault.Fault.Fault},
}
use Rattle.ports_core.proofs.MessageLemmas.{each_more, each_state}
use Rattle.tee_core.specs.{
  Run.{SaysTo, TeeRun, output_at, output_names, output_slot, report_of, said_of_input, said_since, standings_of},
  Run.{stands_as, tee_called, tells},
  inner.Steps.HasStreams,
  declared.standing.Standing.{Standing, TheVariants.{Sound}},
}

-- outputs up to a place that were looked at, and after it those that weren't
abbrev SeenTo : ℕ → List Standing → List Standing → List Standing → Type 0
SeenTo n known stand nows = nows ≡ take n stand ++ drop n known

set_next : (n : ℕ) (known stand : List Standing) → n < length known → length stand ≡ length known
    → set (take n stand ++ drop n known) n (get_or stand n Sound) ≡ take (suc n) stand ++ drop (suc n) known
set_next zero (was ∷ known) (one ∷ stand) within many = refl
set_next (suc n) (was ∷ known) (one ∷ stand) within many =
    ap (λ rest. one ∷ rest) (set_next n known stand (omega arith) (omega arith))
set_next n known stand within many = absurd (omega arith)

seen_next : (n : ℕ) (known stand : List Standing) {nows : List Standing} {now : Standing} → n < length known
    → length stand ≡ length known → SeenTo n known stand nows → now ≡ get_or stand n Sound
    → SeenTo (n + 1) known stand (set nows n now)
seen_next n known stand within many so_far sees =
    rw (so_far, sees, (let next : n + 1 ≡ suc n = omega arith in next)) (set_next n known stand within many)

get_next : (n : ℕ) (known stand : List Standing) {nows : List Standing} (other : Standing) → n < length known
    → length stand ≡ length known → SeenTo n known stand nows → get_or nows n other ≡ get_or known n Sound
get_next n known stand other within many so_far = grind (arith, common_steps, so_far)

pub seen_all : (known stand : List Standing) {nows : List Standing} → length stand ≡ length known
    → SeenTo (length known) known stand nows → nows ≡ stand
seen_all known stand many so_far = grind (arith, common_steps, so_far)

-- where outputs stand

pub standing_at : (output error : Slot) (files : List Slot) (n : ℕ)
    → stands_as (slot_at (output ∷ error ∷ files) (output_slot n))
    ≡ get_or (standings_of (output ∷ error ∷ files)) n Sound
standing_at output error files zero = refl
standing_at output error files (suc n) = sym (get_or-map stands_as files n no_slot)

pub count_standings : {slots : List Slot} {count : ℕ} → HasStreams slots count
    → length (standings_of slots) ≡ count + 1
count_standings {count} has =
    rw has.are (omega (arith, length-map has.files stands_as))

-- standard error alone is written

says_too : (report : Report) {run : TeeRun} {reports : List Report} {count : ℕ} {old now new : List Slot}
    → HasStreams old count → SaysTo run reports old now
    → SaysOn run.visible (tee_called run.calling) report.why report.message now new
    → SaysTo run (reports ++ report ∷ []) old new
says_too report {run} {reports} has so_far says =
    let said = says has.output so_far.error has.files (so_far.slots ∙ ap (changed_at 1 (λ _. so_far.error)) has.are) in record {
      error = said.0;
      said = each_more run.visible (tee_called run.calling) reports report _ so_far.error said.0 so_far.said said.1;
      slots = said.2 ∙ sym (ap (changed_at 1 (λ _. said.0)) has.are);
    }

output_same : (output error other : Slot) (files : List Slot) (n : ℕ)
    → output_at (output ∷ error ∷ files) n ≡ output_at (output ∷ other ∷ files) n
output_same output error other files zero = refl
output_same output error other files (suc n) = refl

-- outputs stay as they are while messages are written
stays_at : {run : TeeRun} {reports : List Report} {count : ℕ} {old now : List Slot} (n : ℕ) → HasStreams old count
    → SaysTo run reports old now → output_at now n ≡ output_at old n
stays_at n has said =
    ap (λ those. output_at those n) (said.slots ∙ ap (changed_at 1 (λ _. said.error)) has.are)
    ∙ output_same has.output said.error has.error has.files n ∙ sym (ap (λ those. output_at those n) has.are)

stands_there : {count : ℕ} {slots : List Slot} (n : ℕ) → HasStreams slots count
    → stands_as (output_at slots n) ≡ get_or (standings_of slots) n Sound
stands_there n has = rw has.are (standing_at has.output has.error has.files n)

-- the report of the fault that ended the reading
pub input_told : (run : TeeRun) (source : Source) {fault : Option Fault} {one : Fault} {count : ℕ} {old new : List Slot}
    {why : Reason} → fault ≡ Some one → why ≡ source.reason → HasStreams old count
    → SaysOn run.visible (tee_called run.calling) why (message_of one (codes "standard input")) old new
    → SaysTo run (said_of_input source fault) old new
input_told run source is reason has says =
    let said = (rw reason at says) has.output has.error has.files has.are in rw (is, has.are) (record {
      error = said.0;
      said = (said.0, said.1, refl);
      slots = said.2;
    })

pub input_silent : (run : TeeRun) {slots : List Slot} {count : ℕ} → HasStreams slots count → SaysTo run [] slots slots
input_silent run has = rw has.are (record { error = has.error; said = refl; slots = refl })

-- how far the loop over the outputs has come
pub record Telling (run : TeeRun) (fault : Fault) (before : List Standing) (n : ℕ) (old now : List Slot)
    (known : List Standing) : Type 0 where
  pub said : SaysTo run (said_since run fault before old n) old now
  pub seen : SeenTo n before (standings_of old) known

pub tells_none : {run : TeeRun} {fault : Fault} {known : List Standing} {count : ℕ} {slots : List Slot}
    → HasStreams slots count → Telling run fault known 0 slots slots known
tells_none {run} has = record { said = input_silent run has; seen = refl }

module _ {run : TeeRun} {fault : Fault} {before known : List Standing} {n count : ℕ} {old now : List Slot}
    (has : HasStreams old count) (so_far : Telling run fault before n old now known) where
  pub error_open : is_open (slot_at now 1).state ≡ true
  error_open =
      ap (λ those. is_open (slot_at those 1).state) (so_far.said.slots ∙ ap (changed_at 1 (λ _. so_far.said.error)) has.are)
      ∙ ap is_open (each_state run.visible (tee_called run.calling) _ _ so_far.said.error so_far.said.said)
      ∙ ap (λ those. is_open (slot_at those 1).state) has.are ∙ has.opened

  pub tells_next : (other : Standing) {new : List Slot} {name : List ℕ} {standing : Standing}
      → length before ≡ count + 1 → n < length before → name ≡ get_or (output_names run.names) n []
      → standing ≡ stands_as (output_at now n)
      → (tells run.on_broken (get_or known n other) standing ≡ true
      → SaysOn run.visible (tee_called run.calling) (output_at now n).reason (message_of fault name) now new)
      → (tells run.on_broken (get_or known n other) standing ≡ false → new ≡ now)
      → Telling run fault before (n + 1) old new (set known n standing)
  tells_next other {new} {name} {standing} many within named sees says quiet =
      let many_now = count_standings has ∙ sym many in
      let still = stays_at n has so_far.said in
      let stood = sees ∙ ap stands_as still in
      let was = get_next n before (standings_of old) other within many_now so_far.seen in
      record {
        said = rw (let e : n + 1 ≡ suc n = omega arith in e, ← was, ← stood)
            (cond_both (tells run.on_broken (get_or known n other) standing) (report_of run fault n (output_at old n) ∷ []) []
            (λ more. SaysTo run (said_since run fault before old n ++ more) old new)
            (λ is. says_too (report_of run fault n (output_at old n)) has so_far.said (rw (named, still) at (says is)))
            (λ is. rw (append-nil (said_since run fault before old n), quiet is) so_far.said));
        seen = seen_next n before (standings_of old) within many_now so_far.seen (stood ∙ stands_there n has);
      }

  pub told_all : length before ≡ count + 1 → n ≡ length before → known ≡ standings_of old
  told_all many all = seen_all before (standings_of old) (count_standings has ∙ sym many) (rw all at so_far.seen)
