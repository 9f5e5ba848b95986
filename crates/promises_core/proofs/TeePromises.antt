-- Lemmas on what a run of `tee` leaves and reports of its outputs, and on what ended it.
use Rattle.std.proofs.{
  Common.{◌≡◌, ◌⊎◌, ℕ, ◌+◌, ◌≤◌, ◌<◌, ◌^◌, get_or, zero, suc, Bool, true, false, List, [], ◌∷◌, ◌++◌, length},
  Common.{Option, Some, inl, inr, refl, sym, ◌∙◌, ap, arith, append-nil, All, codes, not, if◌then◌else◌},
  lemmas.{
    List.{
      Elements.{All-append, All-nil},
      Folds.{Any-from_list_any, list_any_at},
      get_or_default,
      get_or_past,
      length-map,
      map-append,
    },
    Grind.common_steps,
    Bool.{cases_Bool, cases_lt, cond_both, false≢true, not-true, or_cases, or_parts},
  },
}
use Rattle.std.specs.List.{concat, list_any}
use Rattle.ports_core.specs.{
  declared.{
    reason.Reason.Reason,
    fault.Fault.{Fault, TheVariants.{Memory, Open, Write}},
    on_broken.OnBroken.OnBroken,
    slot.{State.{State, TheVariants.Unopened}, Mode.Mode},
  },
  Inputs.largest_piece,
  Slot.{Slot, is_open, no_slot, opened, slot_at},
  Source.{Content, Source, source_at},
  Streams.{streams_with, standard_error},
  Text.{Message, message_of},
  Message.{Report, SaysAll},
}
use Rattle.engine_core.specs.Written.{IsBeginning}
use Rattle.ports_core.proofs.MessageLemmas.{each_all, messages_in, says_after}
use Rattle.engine_core.proofs.WrittenLemmas.{begins_itself, begins_trans, nothing_begins}
use Rattle.tee_core.{
  specs.{
    Outputs.{Closes, Gets, gets_all, breaks_off, gets_none, is_closed, fails_to_close, was_broken},
    Opening.{OpensAs, is_opened, is_unopened},
    Run.{AreSound, ClosesAll, Copied, IsRead, LeavesOf, SaysTo, Step, TeeRun, all_opened, any_is, ends_run, is_done},
    Run.{is_same, lost_for, output_at, output_names, output_slot, report_of, said_of_input, said_in, said_since},
    Run.{standings_of, stands_as, tee_called, tells},
    declared.standing.Standing.{Standing, TheVariants.{Broken, Gone, Sound}},
    inner.Steps.HasStreams,
  },
  proofs.{
    CopyLemmas.{Has, Stands, has_all, has_begun, has_none, has_sound, joined_more, mapped_at, output_of, said_error},
    CopyLemmas.{said_place, stands_of, stands_said, stands_streams, start_of, starts_well, streams_count, streams_kept},
    CopyLemmas.streams_of,
    EndLemmas.{end_streams, none_broke},
    TellLemmas.{count_standings, standing_at},
  },
}
use Rattle.words_core.specs.{TeeWords.TeeAsked, declared.settings.Settings.{Settings, TheVariants.Tee}}
use Rattle.tools_core.specs.Outcome.{tee_run}
use Rattle.promises_core.{
  specs.Promises.{BeginsAs, BrokeAt, EndsWithBreak, HasGone, HasUpTo, IsCalled, LostReader, OneIs, Ran, SaysLines},
  specs.Promises.{SaysWhy, StopsRun, Tells, TellsMet, failing, message_by},
  proofs.BeginLemmas.{bare_begins, empty_begins},
  proofs.LeftLemmas.{HasLine, copy, has_after, has_before, one_line, ran_over, same_content, says_line, slots_of},
  proofs.LeftLemmas.{tee_made, tells_one},
}
use Rattle.ports_core.specs.declared.slot.State.TheVariants as state
use Rattle.ports_core.specs.declared.reason.Reason.TheVariants as reason
use Rattle.tee_core.specs.Run as tee
use Rattle.tools_core.specs.Run.{Run}

abbrev job_of : Run → TeeAsked → TeeRun
job_of run asked = tee_run run.calling true asked

-- One output, by its slot.

open_writes : (which : State) → is_open which ≡ true → failing 0 which ≡ Write 0
open_writes state.Open opened = refl
open_writes which opened = absurd (cc)

-- no message has the number of an output's slot, and a fault of an output isn't about words
failing_message : (run : Run) (place : ℕ) (which : State) (name : List ℕ)
    → message_of (failing 0 which) name ≡ message_by run (failing place which) name
failing_message run place state.Unopened name = refl
failing_message run place state.Open name = refl
failing_message run place state.Closed name = refl
failing_message run place state.Removed name = refl

-- how an output stands says whether it is broken, and whether its reader is gone

lost_sound : (why : Reason) → lost_for why ≡ Sound → ⊥
lost_sound reason.Gone is = cc
lost_sound why is = cc

sound_slot : (slot : Slot) → stands_as slot ≡ Sound → slot.is_broken ≡ false
sound_slot slot is = grind (arith, common_steps, lost_sound)

-- a standing other than `Sound` that passes a test
broken_slot : (test : Standing → Bool) → test Sound ≡ false → (slot : Slot) → test (stands_as slot) ≡ true
    → slot.is_broken ≡ true
broken_slot test lost slot is = grind (arith, common_steps)

stands_lost : (slot : Slot) → slot.is_broken ≡ true → stands_as slot ≡ lost_for slot.reason
stands_lost slot broken = rw broken refl

gone_why : (why : Reason) → is_same (lost_for why) Gone ≡ true → why ≡ reason.Gone
gone_why reason.Gone is = refl
gone_why why is = absurd (cc)

told_broken : (on_broken : OnBroken) (standing : Standing) → is_same standing Broken ≡ true
    → tee.is_told on_broken standing ≡ true
told_broken on_broken Broken is = refl
told_broken on_broken standing is = absurd (cc)

-- an output that broke is reported, unless its reader is gone and the mode keeps that back
told_loud : (on_broken : OnBroken) (why : Reason)
    → (tee.is_quiet on_broken ≡ false) ⊎ (is_same (lost_for why) Gone ≡ false)
    → tee.is_told on_broken (lost_for why) ≡ true
told_loud on_broken reason.Gone (inl loud) = ap not loud
told_loud on_broken reason.Gone (inr none) = absurd (cc)
told_loud on_broken why loud = refl

tells_parts : (on_broken : OnBroken) (was now : Standing) → tells on_broken was now ≡ true
    → (was ≡ Sound) × (tee.is_told on_broken now ≡ true)
tells_parts on_broken Sound now is = (refl, is)
tells_parts on_broken was now is = absurd (cc)

-- Outputs are numbered without standard error.

each_place : (P : ℕ → Type 0) → ((n : ℕ) → P (output_slot n)) → (place : ℕ) → (place ≡ 1 → ⊥) → P place
each_place P each zero differs = each 0
each_place P each (suc zero) differs = absurd (differs refl)
each_place P each (suc (suc n)) differs = each (suc n)

not_error : (n : ℕ) → output_slot n ≡ 1 → ⊥
not_error zero is = omega (arith, is)
not_error (suc n) is = omega (arith, is)

broken_within : (slots : List Slot) (place : ℕ) → (slot_at slots place).is_broken ≡ true → place < length slots
broken_within [] place broken = absurd (cc)
broken_within (slot ∷ slots) zero broken = omega arith
broken_within (slot ∷ slots) (suc place) broken = omega (arith, broken_within slots place broken)

-- where they stand
module _ {slots : List Slot} {count : ℕ} (has : HasStreams slots count) where
  number_within : (n : ℕ) → output_slot n < length slots → n ≤ count
  number_within zero within = omega arith
  number_within (suc n) within = omega (arith, within, streams_count has)

  broken_number : (n : ℕ) → (output_at slots n).is_broken ≡ true → n ≤ count
  broken_number n broken = number_within n (broken_within slots (output_slot n) broken)

  stands_at : (n : ℕ) → get_or (standings_of slots) n Sound ≡ stands_as (output_at slots n)
  stands_at n = rw has.are (sym (standing_at has.output has.error has.files n))

  -- some output passes a test
  one_at : (test : Standing → Bool) → list_any test (standings_of slots) ≡ true
      → (n : ℕ) × (n ≤ count) × (test (stands_as (output_at slots n)) ≡ true)
  one_at test any = let (n, standing, within, same, is) = Any-from_list_any test (standings_of slots) any in (
    n,
    omega (arith, within, count_standings has),
    rw (← (stands_at n), get_or_default (standings_of slots) n Sound standing within, same) is,
  )

  any_at : (test : Standing → Bool) {n : ℕ} → n ≤ count
      → test (stands_as (output_at slots n)) ≡ true → list_any test (standings_of slots) ≡ true
  any_at test {n} within tested =
      list_any_at test (standings_of slots) n Sound (omega (arith, within, count_standings has)) (rw (stands_at n) tested)

any_tests : (one : Standing) (standings : List Standing)
    → any_is one standings ≡ list_any (λ standing. is_same standing one) standings
any_tests one [] = refl
any_tests one (standing ∷ standings) = rw (any_tests one standings)

-- The lines about outputs that broke in a step.

module _ (job : TeeRun) (fault : Fault) (was : List Standing) (now : List Slot) where
  -- the output of this number broke in the step, and is reported
  abbrev IsDue : ℕ → Type 0
  IsDue n = tells job.on_broken (get_or was n Sound) (stands_as (output_at now n)) ≡ true

  abbrev line_of : ℕ → Message
  line_of n = message_of fault (get_or (output_names job.names) n [])

  -- one output more
  since_next : (count : ℕ) → messages_in (said_since job fault was now (suc count))
      ≡ messages_in (said_since job fault was now count)
      ++ messages_in (if tells job.on_broken (get_or was count Sound) (stands_as (output_at now count))
      then report_of job fault count (output_at now count) ∷ [] else [])
  since_next count = map-append (λ (report : Report). report.message) (said_since job fault was now count) _

  since_are : (Line : Message → Type 0) → ((n : ℕ) → IsDue n → Line (line_of n)) → (count : ℕ)
      → All Line (messages_in (said_since job fault was now count))
  since_are Line tell zero = All-nil Line
  since_are Line tell (suc count) = rw (since_next count) (All-append Line _ _ (since_are Line tell count)
      (cond_both (tells job.on_broken (get_or was count Sound) (stands_as (output_at now count)))
      (report_of job fault count (output_at now count) ∷ []) [] (λ more. All Line (messages_in more))
      (λ is. one_line Line (line_of count) (tell count is)) (λ differs. All-nil Line)))

  since_has : (n count : ℕ) → n < count → IsDue n
      → HasLine (line_of n) (messages_in (said_since job fault was now count))
  since_has n zero within is = absurd (omega arith)
  since_has n (suc count) within is = rw (since_next count) (elim (cases_lt n count) [
    | inl before ↦ has_before _ (since_has n count before is)
    | inr past ↦ let same : count ≡ n = omega (arith, within, past) in
        has_after (messages_in (said_since job fault was now count)) (rw (same, is) ([], [], refl))
  ])

-- the line about an output of this number that is broken
abbrev line_at : TeeRun → ℕ → Slot → Message
line_at job n slot = message_of (failing 0 slot.state) (get_or (output_names job.names) n [])

-- an output in a step: if it was broken it stays as it is, and if it breaks it has the fault of the step
abbrev Breaks : Fault → Slot → Slot → Type 0
Breaks fault old new = (old.is_broken ≡ true → new ≡ old)
    × (old.is_broken ≡ false → new.is_broken ≡ true → failing 0 new.state ≡ fault)

same_breaks : {fault : Fault} {old new : Slot} → new ≡ old → Breaks fault old new
same_breaks is = grind (arith, common_steps)

sound_breaks : {fault : Fault} {old new : Slot} → old.is_broken ≡ false
    → (new.is_broken ≡ true → failing 0 new.state ≡ fault) → Breaks fault old new
sound_breaks sound fails = grind (arith, common_steps)

opened_breaks : {mode : Mode} {name : List ℕ} {old new : Slot} → old.is_broken ≡ false → OpensAs mode name new
    → Breaks (Open 0) old new
opened_breaks sound is_opened = grind (arith, common_steps)
opened_breaks sound (is_unopened kept why named) = grind (arith, common_steps)

gets_breaks : {piece : List ℕ} {visible : Bool} {old new : Slot} → (old.is_broken ≡ false → is_open old.state ≡ true)
    → Gets visible piece old new → Breaks (Write 0) old new
gets_breaks usable (breaks_off sound n why within) = grind (arith, common_steps, open_writes)
gets_breaks usable (gets_all sound) = grind (arith, common_steps)
gets_breaks usable (gets_none broken) = grind (arith, common_steps)

-- an output that is told of is broken
told_slot : (on_broken : OnBroken) (slot : Slot) → tee.is_told on_broken (stands_as slot) ≡ true → slot.is_broken ≡ true
told_slot on_broken = broken_slot (tee.is_told on_broken) refl

-- The lines of a run, if outputs that broke stand at the end as these, and each line about one of them is such a line.
module _ (job : TeeRun) (final : List Slot) (Line : Message → Type 0)
    (tell : (n : ℕ) → n ≤ length job.names → (output_at final n).is_broken ≡ true
    → Line (line_at job n (output_at final n))) where
  abbrev Stay : List Slot → Type 0
  Stay slots = (n : ℕ) → (output_at slots n).is_broken ≡ true → output_at final n ≡ output_at slots n

  -- the lines so far: each output that is broken, and is to be reported, has one
  record Reports (lines : List Message) (slots : List Slot) : Type 0 where
    pub said : SaysAll job.visible (tee_called job.calling) lines standard_error (slot_at slots 1)
    pub are : All Line lines
    pub each : (n : ℕ) → n ≤ length job.names → (output_at slots n).is_broken ≡ true
        → tee.is_told job.on_broken (stands_as (output_at final n)) ≡ true
        → HasLine (line_at job n (output_at final n)) lines

  reports_said : {lines : List Message} {reports : List Report} {old new : List Slot}
      → HasStreams old (length job.names) → Reports lines old → SaysTo job reports old new
      → All Line (messages_in reports) → Reports (lines ++ messages_in reports) new
  reports_said {lines} {reports} {old} has so_far says are = record {
    said = rw (said_error says (omega (arith, streams_count has)))
        (says_after job.visible (tee_called job.calling) lines (messages_in reports) standard_error (slot_at old 1) says.error
        so_far.said (each_all _ _ reports _ _ says.said));
    are = All-append Line lines (messages_in reports) so_far.are are;
    each = λ n within broken told.
        has_before (messages_in reports) (so_far.each n within (rw (said_place says (output_slot n) (not_error n)) at broken) told);
  }

  module _ {fault : Fault} {Change : Slot → Slot → Type 0} {IsOne : ℕ → Type 0} {old new : List Slot}
      (has : HasStreams old (length job.names)) (step : Step job fault Change IsOne old new)
      (breaks : (n : ℕ) → n ≤ length job.names → Breaks fault (output_at old n) (output_at step.mid n))
      (stay : Stay new) where
    now_at : (n : ℕ) → output_at new n ≡ output_at step.mid n
    now_at n = said_place step.said (output_slot n) (not_error n)

    stay_before : Stay old
    stay_before n broken = let same = now_at n ∙ (breaks n (broken_number has n broken)).0 broken in stay n (rw same broken) ∙ same

    reports_next : {lines : List Message} → (IsOne 1 → ⊥) → Reports lines old
        → Reports (lines ++ messages_in (said_in job fault old step.mid)) new
    reports_next {lines} apart so_far = record {
      said = rw (said_error step.said (omega (arith, streams_count mid)))
          (says_after job.visible (tee_called job.calling) lines _ standard_error (slot_at old 1) step.said.error so_far.said
          (each_all _ _ _ _ _ (rw (step.changes.others 1 apart) at step.said.said)));
      are = All-append Line lines _ so_far.are (since_are job fault (standings_of old) step.mid Line about (length job.names + 1));
      each = λ n within broken told. by n within broken told (output_at old n).is_broken refl;
    } where
      mid : HasStreams step.mid (length job.names)
      mid = streams_kept has step.changes.count (step.changes.others 1 apart)

      -- the line about an output that broke in the step
      line : (n : ℕ) → n ≤ length job.names → (output_at old n).is_broken ≡ false
          → (output_at step.mid n).is_broken ≡ true
          → line_of job fault (standings_of old) step.mid n ≡ line_at job n (output_at final n)
      line n within sound broken =
          rw (stay n (rw (now_at n) broken), now_at n, (breaks n within).1 sound broken) refl

      about : (n : ℕ) → IsDue job fault (standings_of old) step.mid n
          → Line (line_of job fault (standings_of old) step.mid n)
      about n told =
          let (was, now) = tells_parts job.on_broken _ _ (rw (stands_at has n) at told) in
          let broken = told_slot job.on_broken (output_at step.mid n) now in
          let within = broken_number mid n broken in
          rw (line n within (sound_slot (output_at old n) was) broken)
          (tell n within (rw (stay n (rw (now_at n) broken), now_at n) broken))

      by : (n : ℕ) → n ≤ length job.names → (output_at new n).is_broken ≡ true
          → tee.is_told job.on_broken (stands_as (output_at final n)) ≡ true → (broken : Bool)
          → (output_at old n).is_broken ≡ broken
          → HasLine (line_at job n (output_at final n)) (lines ++ messages_in (said_in job fault old step.mid))
      by n within broken told true was = has_before _ (so_far.each n within was told)
      by n within broken told false sound =
          let now = rw (stay n broken, now_at n) at told in
          has_after lines (rw (← (line n within sound (rw (now_at n) at broken)))
          (since_has job fault (standings_of old) step.mid n (length job.names + 1) (omega (arith, within))
          (rw (stands_at has n, sound) now)))

  reports_of : {pieces : List (List ℕ)} {slots : List Slot} → Copied job pieces slots → Stay slots
      → (lines : List Message) × Reports lines slots
  reports_of (tee.started new step) stay = (_, reports_next first step breaks stay (λ file. omega (arith, file.0)) none) where
    first : HasStreams (all_opened job) (length job.names)
    first = streams_of (omega (arith, length-map job.names (λ name. opened name job.mode))) refl

    start : (n : ℕ) → n ≤ length job.names → (output_at (all_opened job) n).is_broken ≡ false
    start zero within = refl
    start (suc n) within = rw (mapped_at (λ name. opened name job.mode) job.names n within) refl

    none : Reports [] (all_opened job)
    none = record {
      said = refl;
      are = All-nil Line;
      each = λ n within broken told. absurd (false≢true (sym (start n within) ∙ broken));
    }

    breaks : (n : ℕ) → n ≤ length job.names → Breaks (Open 0) (output_at (all_opened job) n) (output_at step.mid n)
    breaks zero within = same_breaks (step.changes.others 0 (λ file. omega (arith, file.0)))
    breaks (suc n) within = opened_breaks (start (suc n) within) (step.changes.each (suc (suc n)) (omega arith, omega (arith, within)))
  reports_of (tee.one_more pieces piece old new so_far goes some few step) stay =
      let (lines, reports) = reports_of so_far (stay_before (stands_streams stands) step breaks stay) in
      (_, reports_next (stands_streams stands) step breaks stay (λ is. is.0 refl) reports) where
        stands : Stands job (concat pieces) old
        stands = stands_of so_far

        breaks : (n : ℕ) → n ≤ length job.names → Breaks (Write 0) (output_at old n) (output_at step.mid n)
        breaks n within = gets_breaks (λ sound. rw (has_sound (stands.each n within) sound) (starts_well job n).1)
            (step.changes.each (output_slot n) (output_of job.names n within))

-- All pieces but the last, and the last.

record Last (job : TeeRun) (pieces : List (List ℕ)) (slots : List Slot) : Type 0 where
  pub before : List ℕ
  pub last : List ℕ
  pub all : concat pieces ≡ before ++ last
  pub small : length last ≤ largest_piece
  -- an output that ends the run didn't end it before the last piece
  pub some : (n : ℕ) → n ≤ length job.names → ends_run (stands_as (output_at slots n)) job.on_broken ≡ true
      → IsBeginning before (output_at slots n).written
      × ((output_at slots n).state ≡ Unopened → pieces ≡ [])

-- an output that ends the run once a piece was written to the outputs
gets_last : (on_broken : OnBroken) {x piece : List ℕ} {start old new : Slot} → start.written ≡ []
    → is_open start.state ≡ true → Has true x start old → (ends_run (stands_as old) on_broken ≡ true → ⊥)
    → Gets true piece old new → ends_run (stands_as new) on_broken ≡ true
    → IsBeginning x new.written × (new.state ≡ Unopened → ⊥)
gets_last on_broken none opened has goes (gets_all sound) ends = grind (arith, common_steps, has_sound)
gets_last on_broken none opened has goes (breaks_off sound n why within) ends = grind (arith, common_steps, has_sound)
gets_last on_broken none opened has goes (gets_none broken) ends = absurd (goes ends)

last_of : (run : Run) (asked : TeeAsked) {pieces : List (List ℕ)} {slots : List Slot}
    → Copied (job_of run asked) pieces slots → Last (job_of run asked) pieces slots
last_of run asked (tee.started new step) = record {
  before = [];
  last = [];
  all = refl;
  small = omega arith;
  some = λ n within ends. (nothing_begins _, λ unopened. refl);
}
last_of run asked (tee.one_more pieces piece old new so_far goes more few step) = record {
  before = concat pieces;
  last = piece;
  all = sym (joined_more pieces piece);
  small = few;
  some = λ n within ends. let (begins, opened) = at n within ends in (begins, λ unopened. absurd (opened unopened));
} where
  stands : Stands (job_of run asked) (concat pieces) old
  stands = stands_of so_far

  at : (n : ℕ) → n ≤ length asked.names → ends_run (stands_as (output_at new n)) asked.on_broken ≡ true
      → IsBeginning (concat pieces) (output_at new n).written
      × ((output_at new n).state ≡ Unopened → ⊥)
  at n within ends =
      let same = said_place step.said (output_slot n) (not_error n) in
      let start = starts_well (job_of run asked) n in
      rw same (gets_last asked.on_broken start.2 start.1 ((stands.each n within))
      (λ ended. false≢true (sym (or_parts _ _ goes).0
      ∙ any_at (stands_streams stands) (λ standing. ends_run standing asked.on_broken) within ended))
      ((step.changes.each (output_slot n) (output_of asked.names n within))) (rw same at ends))

-- an output at the end: as it was once all was copied; or it was sound then, has all, and was closed
pub data Final (x name : List ℕ) (old : Slot) : Slot → Type 0 where
  as_before : Final x name old old
  is_whole : (new : Slot) → old.is_broken ≡ false → new.written ≡ x → new.name ≡ name → new.state ≡ state.Closed
      → Final x name old new

closed_final : {x : List ℕ} {start old new : Slot} → start.written ≡ [] → Has true x start old → Closes old new
    → Final x start.name old new
closed_final empty has (is_closed sound) = is_whole _ sound (grind (arith, common_steps, has_sound))
    (grind (arith, common_steps, has_sound)) refl
closed_final empty has (fails_to_close sound why) = is_whole _ sound (grind (arith, common_steps, has_sound))
    (grind (arith, common_steps, has_sound)) refl
closed_final empty has (was_broken broken) = as_before

final_breaks : {x name : List ℕ} {old new : Slot} → Final x name old new → Breaks (Write 0) old new
final_breaks as_before = same_breaks refl
final_breaks (is_whole new sound all named closed) = sound_breaks sound (λ broken. rw closed refl)

-- its name, and what it has
has_named : {x : List ℕ} {start output : Slot} → start.written ≡ [] → Has true x start output
    → IsCalled output start.name × ((output.name ≡ start.name) ⊎ (output.written ≡ [])) × IsBeginning output.written x
has_named empty has_all = grind (arith, common_steps, begins_itself)
has_named empty (has_none kept why named) = grind (arith, common_steps, nothing_begins)
has_named empty (has_begun y why begins) = grind (arith, common_steps)

final_named : {x : List ℕ} {start old new : Slot} → start.written ≡ [] → Has true x start old
    → Final x start.name old new
    → IsCalled new start.name × ((new.name ≡ start.name) ⊎ (new.written ≡ [])) × IsBeginning new.written x
final_named empty has as_before = has_named empty has
final_named empty has (is_whole new sound all named closed) = grind (arith, common_steps, begins_itself)

pub failing_stops : (run : Run) (asked : Settings) {name : List ℕ} {place : ℕ} (which : State)
    → BrokeAt run place name (failing place which) → StopsRun run asked name (failing place which)
failing_stops run asked state.Open broke = broke
failing_stops run asked which broke = broke

-- an output was reported by its name
abbrev pub IsToldAt : Run → TeeAsked → ℕ → Type 0
IsToldAt run asked place = (name : List ℕ) × IsCalled (slot_at run.outputs place) name
    × Tells run (Tee asked) (failing place (slot_at run.outputs place).state) name

-- The lines tell what the run met. One is about the input, if a fault ended the reading, and one about each output that
-- is to be reported.
pub record TellsAll (run : Run) (asked : TeeAsked) (fault : Option Fault) : Type 0 where
  pub streams : HasStreams run.outputs (length asked.names)
  pub lines : List Message
  pub says : SaysLines run (Tee asked) lines
  pub input : (met : Fault) → fault ≡ Some met → HasLine (message_of met (codes "standard input")) lines
  pub each : (n : ℕ) → n ≤ length asked.names
      → tee.is_told asked.on_broken (stands_as (output_at run.outputs n)) ≡ true
      → IsToldAt run asked (output_slot n)

-- a run whose outputs were left in this way
module _ (run : Run) (asked : TeeAsked) {pieces : List (List ℕ)} {reports : List Report} {old mid : List Slot}
    (so_far : Copied (job_of run asked) pieces old) (says : SaysTo (job_of run asked) reports old mid)
    (ends : ClosesAll (job_of run asked) mid run.outputs) where
  pub has : HasStreams run.outputs (length asked.names)
  has = end_streams so_far says ends

  pub final_at : (n : ℕ) → n ≤ length asked.names
      → Final (concat pieces) (start_of (job_of run asked) n).name (output_at old n) (output_at run.outputs n)
  final_at n within = rw (said_place ends.said (output_slot n) (not_error n), ← (said_place says (output_slot n) (not_error n)))
      (by n within) where
        by : (n : ℕ) → n ≤ length asked.names
            → Final (concat pieces) (start_of (job_of run asked) n).name (output_at mid n) (output_at ends.mid n)
        by zero within = rw (ends.changes.others 0 (λ file. omega (arith, file.0))) as_before
        by (suc n) within = closed_final refl ((stands_said (stands_of so_far) says).each (suc n) within)
            (ends.changes.each (suc (suc n)) (omega arith, omega (arith, within)))

  -- an output that was broken once all was copied stays so
  pub stays : (n : ℕ) → (output_at old n).is_broken ≡ true → output_at run.outputs n ≡ output_at old n
  stays n broken = (final_breaks (final_at n (broken_number (stands_streams (stands_of so_far)) n broken))).0 broken

  -- what was reported, if the line about the input tells what was met
  pub told_all : (source : Source) {fault : Option Fault} → reports ≡ said_of_input source fault
      → All (TellsMet run (Tee asked)) (messages_in reports) → TellsAll run asked fault
  told_all source for of_input = record {
    streams = has;
    lines = lines;
    says = record { are = all.are; said = all.said };
    input = λ met is. has_before _ (has_after before.0 (rw (for, is) ([], [], refl)));
    each = λ n within told. (
      _,
      called n within,
      says_line (rw (failing_message run (output_slot n) (output_at run.outputs n).state (get_or (output_names asked.names) n [])) at
          (all.each n within (told_slot asked.on_broken (output_at run.outputs n) told) told)) (record { are = all.are; said = all.said }),
    );
  } where
    called : (n : ℕ) → n ≤ length asked.names
        → IsCalled (output_at run.outputs n) (get_or (output_names asked.names) n [])
    called zero within = (final_named refl ((stands_of so_far).each 0 within) (final_at 0 within)).0
    called (suc n) within = (final_named refl ((stands_of so_far).each (suc n) within) (final_at (suc n) within)).0

    tell : (n : ℕ) → n ≤ length asked.names → (output_at run.outputs n).is_broken ≡ true
        → TellsMet run (Tee asked) (line_at (job_of run asked) n (output_at run.outputs n))
    tell n within broken =
        let which = (output_at run.outputs n).state in (
          failing (output_slot n) which,
          _,
          inl (failing_stops run (Tee asked) which (not_error n, called n within, broken, refl)),
          failing_message run (output_slot n) which _,
        )

    before : (lines : List Message) × Reports (job_of run asked) run.outputs (TellsMet run (Tee asked)) tell lines old
    before = reports_of (job_of run asked) run.outputs (TellsMet run (Tee asked)) tell so_far stays

    lines : List Message
    lines = (before.0 ++ messages_in reports) ++ messages_in (said_in (job_of run asked) (Write 0) mid ends.mid)

    all : Reports (job_of run asked) run.outputs (TellsMet run (Tee asked)) tell lines run.outputs
    all = reports_next (job_of run asked) run.outputs (TellsMet run (Tee asked)) tell
        (stands_streams (stands_said (stands_of so_far) says)) ends
        (λ n within. rw (said_place ends.said (output_slot n) (not_error n), ← (said_place says (output_slot n) (not_error n))) at
        (final_breaks (final_at n within))) (λ n broken. refl) (λ file. omega (arith, file.0))
        (reports_said (job_of run asked) run.outputs (TellsMet run (Tee asked)) tell (stands_streams (stands_of so_far)) before.1 says of_input)

-- nothing is kept back: the mode doesn't allow it, or no reader is gone
abbrev pub IsLoud : OnBroken → List Slot → Type 0
IsLoud on_broken slots = (tee.is_quiet on_broken ≡ false) ⊎ (any_is Gone (standings_of slots) ≡ false)

module _ {run : Run} {asked : TeeAsked} {fault : Option Fault} (told : TellsAll run asked fault) where
  -- an output that is broken, and to be reported, was reported
  told_at : (place : ℕ) → (place ≡ 1 → ⊥) → (slot_at run.outputs place).is_broken ≡ true
      → tee.is_told asked.on_broken (lost_for (slot_at run.outputs place).reason) ≡ true → IsToldAt run asked place
  told_at = each_place _ (λ n broken is. told.each n (broken_number told.streams n broken)
      (rw (stands_lost (output_at run.outputs n) broken) is))

  -- an output that is broken lost its reader, or was reported
  pub tee_broke : (place : ℕ) → (place ≡ 1 → ⊥) → (slot_at run.outputs place).is_broken ≡ true
      → LostReader run place ⊎ IsToldAt run asked place
  tee_broke place differs broken =
      let why = (slot_at run.outputs place).reason in elim (cases_Bool (is_same (lost_for why) Gone)) [
        | inl gone ↦ inl (gone_why why gone)
        | inr other ↦ inr (told_at place differs broken (told_loud asked.on_broken why (inr other)))
      ]

  -- an output that is broken was reported, if nothing is kept back
  pub tee_told : IsLoud asked.on_broken run.outputs → (place : ℕ) → (place ≡ 1 → ⊥)
      → (slot_at run.outputs place).is_broken ≡ true → IsToldAt run asked place
  tee_told (inl loudly) place differs broken = told_at place differs broken (told_loud asked.on_broken _ (inl loudly))
  tee_told (inr none) place differs broken = told_at place differs broken (told_loud asked.on_broken _ (inr (not_gone place differs broken))) where
    not_gone : (place : ℕ) → (place ≡ 1 → ⊥) → (slot_at run.outputs place).is_broken ≡ true
        → is_same (lost_for (slot_at run.outputs place).reason) Gone ≡ false
    not_gone = each_place _ (λ n broken. elim (cases_Bool (is_same (lost_for (output_at run.outputs n).reason) Gone)) [
      | inl gone ↦ absurd (false≢true (sym none ∙ any_tests Gone (standings_of run.outputs)
          ∙ any_at told.streams (λ standing. is_same standing Gone) (broken_number told.streams n broken)
          (rw (stands_lost (output_at run.outputs n) broken) gone)))
      | inr other ↦ other
    ])

  -- some output stands so
  one_is : (one : Standing) → any_is one (standings_of run.outputs) ≡ true → is_same Sound one ≡ false
      → (n : ℕ) × (n ≤ length asked.names) × ((output_at run.outputs n).is_broken ≡ true)
      × (is_same (stands_as (output_at run.outputs n)) one ≡ true)
  one_is one any lost =
      let (n, within, same) = one_at told.streams (λ standing. is_same standing one) (sym (any_tests one (standings_of run.outputs)) ∙ any) in
      (n, within, broken_slot (λ standing. is_same standing one) lost (output_at run.outputs n) same, same)

  pub any_gone : any_is Gone (standings_of run.outputs) ≡ true → HasGone run
  any_gone any =
      let (n, within, broken, gone) = one_is Gone any refl in
      (output_slot n, not_error n, broken, gone_why _ (rw (stands_lost (output_at run.outputs n) broken) at gone))

  -- an output that broke although it still has a reader was reported in any mode
  pub broken_why : any_is Broken (standings_of run.outputs) ≡ true → SaysWhy run (Tee asked)
  broken_why any =
      let (n, within, broken, is) = one_is Broken any refl in
      let which = (output_at run.outputs n).state in
      let (name, called, line) = told.each n within (told_broken asked.on_broken _ is) in
      (failing (output_slot n) which, name, inl (failing_stops run (Tee asked) which (not_error n, called, broken, refl)), line)

  -- no output broke, or one did
  pub sound_or : AreSound run.outputs ⊎ ((place : ℕ) × (place ≡ 1 → ⊥) × ((slot_at run.outputs place).is_broken ≡ true))
  sound_or = elim (cases_Bool (any_is Broken (standings_of run.outputs))) [
    | inl any ↦ let (n, within, broken, is) = one_is Broken any refl in inr (output_slot n, not_error n, broken)
    | inr whole ↦ elim (cases_Bool (any_is Gone (standings_of run.outputs))) [
      | inl any ↦ let (n, within, broken, is) = one_is Gone any refl in inr (output_slot n, not_error n, broken)
      | inr left ↦ inl (none_broke told.streams whole left)
    ]
  ]

-- Each output has a beginning of the input.

-- all that was copied is a beginning of the input
read_begins : {content : Content} (Leaves : List ℕ → Type 0) {is_vain : Bool} {x : List ℕ} {fault : Option Fault}
    → IsRead content Leaves is_vain x fault → IsBeginning x content.bytes
read_begins Leaves (tee.to_end x is ends leaves) = rw is (begins_itself x)
read_begins Leaves (tee.to_break x is breaks leaves) = rw is (begins_itself x)
read_begins Leaves (tee.to_limit x piece rest is long short leaves) = grind (arith, common_steps)
read_begins Leaves (tee.to_broken_output x rest is leaves) = (rest, is)

pub tee_begins : (run : Run) {asked : TeeAsked} {content : Content} {source : Source} {status : ℕ} (place : ℕ)
    → (place ≡ 1 → ⊥) → tee.EndsAs (job_of run asked) true content source run.outputs status
    → BeginsAs (slot_at run.outputs place) (slot_at (slots_of (tee_made asked content).part) place)
tee_begins run place differs (tee.no_room error says unread slots failed) = rw slots (bare_begins error place differs)
tee_begins run {asked} {content} place differs (tee.copied pieces fault old mid comes so_far says ends is) =
    each_place (λ place. BeginsAs (slot_at run.outputs place) (slot_at (slots_of (tee_made asked content).part) place)) by
    place differs where
      begins : (n : ℕ) → n ≤ length asked.names → {other : Slot} → other.written ≡ content.bytes
          → other.name ≡ (start_of (job_of run asked) n).name
          → BeginsAs (output_at run.outputs n) other
      begins n within bytes name =
          let (called, named, part) = final_named (starts_well (job_of run asked) n).2 ((stands_of so_far).each n within)
          (final_at run asked so_far says ends n within) in record {
            bytes = rw bytes (begins_trans _ (concat pieces) _ part (read_begins _ comes.read));
            named = rw name named;
          }

      by : (n : ℕ)
          → BeginsAs (output_at run.outputs n) (output_at (slots_of (tee_made asked content).part) n)
      by zero = begins 0 (omega arith) refl refl
      by (suc n) = elim (cases_lt n (length asked.names)) [
        | inl within ↦
            let made = mapped_at (copy asked.mode content.bytes) asked.names n within in
            rw made (begins (suc n) within refl refl)
        | inr past ↦ rw (get_or_past run.outputs (suc (suc n)) no_slot (omega (arith, past, streams_count (has run asked so_far says ends))))
            (empty_begins refl)
      ]

-- What was read, and what is left.

read_up_to : {content : Content} (source : Source) {is_vain : Bool} {x : List ℕ} {fault : Option Fault}
    → length content.bytes < 2 ^ 63 → IsRead content (LeavesOf true source) is_vain x fault
    → (rest : List ℕ) × (content.bytes ≡ x ++ rest) × (source.left.bytes ≡ rest) × ((rest ≡ []) ⊎ (is_vain ≡ true))
read_up_to source few (tee.to_end x is ended leaves) = ([], is ∙ sym (append-nil x), leaves refl, inl refl)
read_up_to source few (tee.to_break x is breaks leaves) = ([], is ∙ sym (append-nil x), leaves refl, inl refl)
read_up_to source few (tee.to_limit x piece rest is many within leaves) = grind (arith, common_steps)
read_up_to source few (tee.to_broken_output x rest is leaves) = (rest, is, leaves refl, inr refl)

-- an output that has all, and one as it was once all was copied

up_to_all : (run : Run) (on_broken : OnBroken) {before last : List ℕ} {output : Slot} → output.written ≡ before ++ last
    → (output.state ≡ Unopened → ⊥) → HasUpTo run on_broken before last output
up_to_all run on_broken all opens = grind (arith, common_steps, begins_itself)

up_to : (run : Run) (on_broken : OnBroken) {before last x : List ℕ} {start old new : Slot} → start.written ≡ []
    → x ≡ before ++ last → Has true x start old
    → (ends_run (stands_as old) on_broken ≡ true → IsBeginning before old.written
    × (old.state ≡ Unopened → (source_at run.inputs 0).reads ≡ 0))
    → Final x start.name old new → HasUpTo run on_broken before last new
up_to run on_broken empty all part some as_before = grind (arith, common_steps, has_named, has_sound, sound_slot)
up_to run on_broken empty all part some (is_whole new sound has_it named closed) =
    up_to_all run on_broken (has_it ∙ all) (λ is. absurd (cc (closed, is)))

ends_with_break : (run : Run) (asked : TeeAsked) → length run.world.standard.bytes < 2 ^ 63
    → tee.EndsAs (job_of run asked) true run.world.standard (source_at run.inputs 0) run.outputs run.status
    → EndsWithBreak run asked
ends_with_break run asked few (tee.copied pieces fault old mid comes so_far says ends is) =
    let (more, bytes, unread, over) = read_up_to (source_at run.inputs 0) few comes.read in record {
      before = last.before;
      last = last.last;
      rest = more;
      read = bytes ∙ ap (λ those. those ++ more) last.all;
      left = unread;
      small = last.small;
      outputs = each_place _ outputs;
      ended = elim over [
        | inl all ↦ inl all
        | inr vain ↦ inr (ended vain)
      ];
    } where
      last : Last (job_of run asked) pieces old
      last = last_of run asked so_far

      stands : Stands (job_of run asked) (concat pieces) old
      stands = stands_of so_far

      streams : HasStreams run.outputs (length asked.names)
      streams = has run asked so_far says ends

      outputs : (n : ℕ) → output_slot n < length run.outputs
          → HasUpTo run asked.on_broken last.before last.last (output_at run.outputs n)
      outputs n there =
          let within = number_within streams n there in
          up_to run asked.on_broken (starts_well (job_of run asked) n).2 last.all (stands.each n within)
          (λ ended. let (begins, none) = last.some n within ended in (
            begins,
            λ unopened. comes.reads
                ∙ rw (any_at (stands_streams stands) (λ standing. ends_run standing asked.on_broken) within ended, none unopened) refl,
          ))
          (final_at run asked so_far says ends n within)

      was_sound : not (any_is Sound (standings_of old)) ≡ true → (n : ℕ) → output_slot n < length run.outputs
          → stands_as (output_at run.outputs n) ≡ Sound → ⊥
      was_sound none n there sound = by (output_at old n).is_broken refl where
        within : n ≤ length asked.names
        within = number_within streams n there

        by : (broken : Bool) → (output_at old n).is_broken ≡ broken → ⊥
        by false is = false≢true (sym (not-true _ none) ∙ any_tests Sound (standings_of old)
            ∙ any_at (stands_streams stands) (λ standing. is_same standing Sound) within (rw is refl))
        by true is = false≢true (sym (sound_slot (output_at run.outputs n) sound)
            ∙ ap (λ (slot : Slot). slot.is_broken) (stays run asked so_far says ends n is) ∙ is)

      ended : is_done asked.on_broken (standings_of old) ≡ true
          → OneIs run (λ standing. ends_run standing asked.on_broken ≡ true)
          ⊎ (OneIs run (λ standing. standing ≡ Sound) → ⊥)
          ⊎ (((source_at run.inputs 0).reads ≡ 0) × Tells run (Tee asked) Memory [])
      ended vain = elim (or_cases _ _ vain) [
        | inl one ↦
            let (n, within, ends_it) = one_at (stands_streams stands) (λ standing. ends_run standing asked.on_broken) one in
            let broken = broken_slot (λ standing. ends_run standing asked.on_broken) refl (output_at old n) ends_it in
            let same = stays run asked so_far says ends n broken in
            inl (output_slot n, not_error n, broken_within run.outputs (output_slot n) (rw same broken), rw same ends_it)
        | inr none ↦ inr (inl (λ (place, differs, within, sound). each_place
            (λ place. place < length run.outputs → stands_as (slot_at run.outputs place) ≡ Sound → ⊥) (was_sound none) place differs within sound))
      ]
ends_with_break run asked few (tee.no_room error says (there, unread, same) slots is) = record {
  before = [];
  last = [];
  rest = run.world.standard.bytes;
  read = refl;
  left = ap (λ (source : Source). source.left.bytes) unread ∙ ap (λ (content : Content). content.bytes) (same refl);
  small = omega arith;
  outputs = λ place differs within. rw (ap (λ those. slot_at those place) slots) (at place differs (rw slots at within));
  ended = inr (inr (inr (ap (λ (source : Source). source.reads) unread, tells_one run (Tee asked) Memory [] (inl tt) (rw slots says))));
} where
  at : (place : ℕ) → (place ≡ 1 → ⊥) → place < 2
      → HasUpTo run asked.on_broken [] [] (slot_at (streams_with error) place)
  at zero differs within = up_to_all run asked.on_broken refl (λ is. absurd (cc))
  at (suc zero) differs within = absurd (differs refl)
  at (suc (suc place)) differs within = absurd (omega arith)

pub tee_stops : (run : Run) (asked : TeeAsked) → Ran run (Tee asked) → length run.world.standard.bytes < 2 ^ 63
    → EndsWithBreak run asked
tee_stops run asked ran few = elim (ran_over ran) [
  | inl does ↦ ends_with_break run asked few (rw (← (same_content refl does.input)) at does.ends)
  | inr (fault, bad, refuses) ↦ absurd bad
]
