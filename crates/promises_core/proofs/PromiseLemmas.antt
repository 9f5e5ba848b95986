-- Lemmas on what a run leaves if it met no fault: exactly its part, as its definition says, and nothing on standard
-- error. Also on what `head`, `tail` and `tee` leave of one input; and what any run leaves is a beginning of what its
-- inputs make.
use Rattle.std.proofs.{
  lemmas.{Grind.common_steps, List.Elements.All-map},
  Common.{◌≡◌, ℕ, Bool, true, false, if◌then◌else◌, List, [], ◌∷◌, Option, Some, None, inl, inr, refl, sym, ◌∙◌, ap},
  Common.{arith, map, drop, subst, length, option_map},
}
use Rattle.ports_core.specs.{
  Slot.{Slot, slot_at},
  declared.{calling.Calling.TheVariants.Cutters, slot.Mode.Mode},
  Source.Content,
}
use Rattle.engine_core.specs.Work.{Work}
use Rattle.run_core.specs.{
  Input.{Input, World, shown_of, input_of, inputs_at, is_dash},
  Task.{Outcome, Task, joined, no_outcome, of_content},
}
use Rattle.words_core.specs.{
  declared.settings.Settings.{Settings, TheVariants.{Tee, Head, Tail, Split, Csplit, About}},
  EndsWords.EndsAsked,
  TeeWords.TeeAsked,
  Words.CanRun,
}
use Rattle.tools_core.specs.Tasks.{filing_of, head_task, tail_task, names_of}
use Rattle.words_core.specs.EndsWords.{is_minus, is_plus}
use Rattle.promises_core.specs.{
  Promises.{Gives, GivesBytes, counted, Completes, Does, FindAlike, HasInput, Ran, IsHead, IsTail, IsBare},
  Promises.{CountAlike, output_of, AreCopies, IsSound, files_of, BeginsAs, BeginsEach},
}
use Rattle.promises_core.proofs.{
  BeginLemmas.{all_have_names, ending, is_way, part_of, bare_begins, begins_kept, begins_whole, lawful_grows},
  BeginLemmas.{way_grows, text_begins},
  TeePromises.tee_begins,
  LeftLemmas.{Did, Makes, completes_left, left_whole, same_made, slots_of, copy, tee_made, left_at, given_content},
  LeftLemmas.{makes_task, ran_over, task_knows},
  StoppedPromises.{completes_or, silent_completes},
  SameLemmas.{head_in-None, head_in_lawful, steady_made, tail_in-None, tail_in_lawful},
}
use Rattle.tools_core.proofs.RunLemmas.{by_words}
use Rattle.seg_core.specs.declared.{count.Sign.{Sign}, unit.Unit.{Unit as Counted, TheVariants.{Lines, Bytes}}}
use Rattle.ends_core.specs.{Head.head_work, Tail.tail_work, Ends.{head_of, tail_of}}
use Rattle.csplit_core.specs.laws.InputLaws as csplit_law
use Rattle.tools_core.specs.{Outcome.IsTask, Run.Run}

completes : {run : Run} {asked : Settings} → Does run asked → Completes run asked
completes {run} {asked} does = elim (completes_or run asked does.ran) [
  | inl whole ↦ whole
  | inr (inl stopped) ↦ grind (arith, common_steps)
  | inr (inr silent) ↦ silent_completes asked does silent
]

pub leave_same : (one other : Run) (asked : Settings) → Does one asked → Does other asked → FindAlike asked one other
    → one.outputs ≡ other.outputs
leave_same one other asked does does_too same =
    let here = completes_left (completes does) in
    let there = completes_left (completes does_too) in
    rw (
      (left_whole here.fits here.left does.well).slots,
      ← same_made one other does.ran.read does_too.ran.read same here.of there.of,
    )
    (sym (left_whole there.fits there.left does_too.well).slots)

-- One input, which ends.

lies_there : (world : World) (name : List ℕ) (dash : Bool)
    → (input_of world false 1 name dash).content ≡ (if dash then Some world.standard else world.laid 1 name)
lies_there world name true = refl
lies_there world name false = refl

-- the input shows what lies at its name
shows_all : (world : World) (name : List ℕ) (dash : Bool)
    → (input_of world false 1 name dash).shown ≡ shown_of (input_of world false 1 name dash).content
shows_all world name true = refl
shows_all world name false = refl

-- what was made of the only input of a run
pub record DidOne (run : Run) (asked : Settings) (bytes : List ℕ) : Type 0 where
  pub input : Input
  pub gives : GivesBytes asked input bytes
  pub made : Outcome
  pub makes : Makes asked (input ∷ []) made
  pub sound : made.failed ≡ false
  pub slots : run.outputs ≡ slots_of made.part

pub did_one : {run : Run} {asked : Settings} {bytes : List ℕ} → Does run asked → HasInput run bytes
    → DidOne run asked bytes
did_one {run} {asked} {bytes} does has =
    let input = input_of run.world false 1 has.name (is_dash has.name) in
    let only : names_of asked ≡ has.name ∷ [] = rw does.ran.read at has.only in
    let all = completes_left (completes does) in
    let whole = left_whole all.fits all.left does.well in record {
      input = input;
      gives = record {
        content = has.content;
        is = lies_there run.world has.name (is_dash has.name) ∙ has.holds;
        gives = subst (λ shown. Gives asked shown has.content bytes)
            (sym (shows_all run.world has.name (is_dash has.name)
            ∙ ap shown_of (lies_there run.world has.name (is_dash has.name) ∙ has.holds)))
            (has.gives asked does.ran.read);
      };
      made = all.made;
      makes = rw only at all.of;
      sound = whole.sound;
      slots = whole.slots;
    }

-- what was made of the only input is what is made of it if it shows nothing
pub record IsMade (task : Task) (name bytes : List ℕ) (new : List Slot) : Type 0 where
  pub unjudged : (task.work None).verdict bytes ≡ None
  pub slots : new ≡ slots_of (part_of task name bytes)

pub one_made : {run : Run} {asked : Settings} {bytes : List ℕ} (one : DidOne run asked bytes) (task : Task)
    → IsTask Cutters asked task → IsMade task one.input.name bytes run.outputs
one_made {asked} {bytes} one task of =
    let is : one.made ≡ joined (of_content task (task.work None) true one.input.name (Some (ending bytes))) no_outcome =
    makes_task asked task _ of one.makes
    ∙ rw (steady_made asked task (task_knows Cutters asked task of) true one.input.name bytes one.input refl one.gives) in
    grind (arith, common_steps)

-- What `head` and `tail` leave of one input.

-- what standard output has if no header is written
bare_output : (task : Task) (name input : List ℕ) (work : Work) {new : List Slot} → task.with_header ≡ false
    → task.work None ≡ work → new ≡ slots_of (part_of task name input)
    → (slot_at new 0).written ≡ (work.whole input).out
bare_output task name input work bare is left = rw (left, bare, is)

pub head_output : {run : Run} (options : EndsAsked) {sign : Sign} {n : ℕ} {input : List ℕ} → IsBare options
    → IsHead run options sign n → HasInput run input
    → output_of run ≡ head_of options.delim options.unit (is_minus sign) n input
head_output options {sign} {n} {input} bare does has =
    let task = head_task Cutters (counted options sign n) in
    let one = did_one does has in
    let made = one_made one task refl in
    bare_output task one.input.name input (head_work options.delim options.unit (is_minus sign) n) bare
    (head_in-None options.delim options.unit (is_minus sign) n) made.slots

tail_output : {run : Run} (options : EndsAsked) {sign : Sign} {n : ℕ} {input : List ℕ} → IsBare options
    → IsTail run options sign n → HasInput run input
    → output_of run ≡ tail_of options.delim options.unit (is_plus sign) n input
tail_output options {sign} {n} {input} bare (followed, looks, pause, process, does) has =
    let task = tail_task Cutters (counted options sign n) in
    let one = did_one does has in
    let made = one_made one task refl in
    bare_output task one.input.name input (tail_work options.delim options.unit (is_plus sign) n) bare
    (tail_in-None options.delim options.unit (is_plus sign) n) made.slots

-- the delimiter matters only for lines
tail_of-alike : (unit : Counted) (one other : ℕ) (from_nth : Bool) (n : ℕ) (x : List ℕ) → (unit ≡ Lines → one ≡ other)
    → tail_of one unit from_nth n x ≡ tail_of other unit from_nth n x
tail_of-alike Lines one other from_nth n x delim = rw (delim refl)
tail_of-alike Bytes one other false n x delim = refl
tail_of-alike Bytes one other true n x delim = refl

pub tail_alike : {run : Run} {first rest : EndsAsked} {sign : Sign} {n : ℕ} {input : List ℕ} → CountAlike first rest
    → IsTail run rest sign n → HasInput run input
    → output_of run ≡ tail_of first.delim first.unit (is_plus sign) n input
tail_alike {first} {rest} {sign} {n} {input} alike does has =
    rw (tail_output rest alike.bare.1 does has, ← alike.unit)
    (tail_of-alike first.unit rest.delim first.delim (is_plus sign) n input (λ lines. sym (alike.delim lines)))

-- What `tee` leaves of its input.

abbrev first_content : Content → List Input → Option Content
first_content default [] = Some default
first_content default (input ∷ inputs) = input.content

copies_named : (mode : Mode) (bytes : List ℕ) (names : List (List ℕ))
    → map (λ (file : Slot). file.name) (map (copy mode bytes) names) ≡ names
copies_named mode bytes [] = refl
copies_named mode bytes (name ∷ names) = rw (copies_named mode bytes names)

pub record IsCopied (tee : Run) (asked : TeeAsked) (input : List ℕ) : Type 0 where
  pub output : output_of tee ≡ input
  pub files : AreCopies asked.mode asked.names input (files_of tee)

pub is_copied : {tee : Run} {asked : TeeAsked} {input : List ℕ} → Does tee (Tee asked) → HasInput tee input
    → IsCopied tee asked input
is_copied {asked} {input} does has =
    let one = did_one does has in
    let (content, only, is) = one.makes in
    let bytes = (given_content asked (ap (first_content content) only) one.gives).0 in
    let whole = one.slots ∙ ap (λ (made : Outcome). slots_of made.part) is
    ∙ ap (λ those. slots_of (tee_made asked (record { bytes = those; breaks_off = content.breaks_off; shown = content.shown })).part) bytes in
    record {
      output = rw whole;
      files = rw (ap (drop 2) whole)
          (record {
            named = copies_named asked.mode input asked.names;
            each = All-map
                (λ (file : Slot). IsSound asked.mode file × (file.written ≡ input)) (copy asked.mode input) asked.names
                (λ k name within. ((refl, refl, refl), refl));
          });
    }

-- the outputs have beginnings of what is made of the inputs
begins_made : (run : Run) (asked : Settings) → CanRun asked → Did run asked
    → (made : Outcome) × Makes asked (inputs_at run.world (names_of asked)) made
    × ((place : ℕ) → (place ≡ 1 → ⊥) → BeginsAs (slot_at run.outputs place) (slot_at (slots_of made.part) place))
begins_made run (Head asked) can (task, is, ends) = let ends_so = rw is at ends in
    (_, (_, refl, refl), λ place differs. begins_whole (λ shown. lawful_grows (head_in_lawful _ _ _ _ shown)) differs ends_so)
begins_made run (Tail asked) can (task, is, ends) = let ends_so = rw is at ends in
    (_, (_, refl, refl), λ place differs. begins_whole (λ shown. lawful_grows (tail_in_lawful _ _ _ _ shown)) differs ends_so)
begins_made run (Split asked) can (task, is, ends) =
    let ends_so = rw is at ends in
    let grows = λ (shown : Option (List ℕ)). way_grows asked.way asked.elide (filing_of asked) (option_map length shown)
    (is_way asked can) (all_have_names asked can.named) in
    (_, (_, refl, refl), λ place differs. begins_whole grows differs ends_so)
begins_made run (Csplit asked) can (task, (operands, asks, is), ends) =
    let ends_so = rw is at ends in
    let law = csplit_law.lawful asked.style operands in
    (_, (_, (operands, asks, refl), refl), λ place differs. begins_whole (λ shown. lawful_grows law) differs ends_so)
begins_made run (Tee asked) can does =
    (_, (does.content, does.input, refl), λ place differs. tee_begins run place differs does.ends)
begins_made run (About which topic) can does = (_, refl, λ place differs. text_begins place differs does)

pub begins_each : (run well : Run) (asked : Settings) → Ran run asked → Completes well asked → FindAlike asked run well
    → BeginsEach run well
begins_each run well asked ran whole same =
    let all = completes_left whole in
    elim (ran_over ran) [
      | inl does ↦ λ place differs.
          let (made, makes, begins) = begins_made run asked (by_words run.calling run.words ran.read).1 does in
          let same_too = same_made run well ran.read whole.read same makes all.of in
          begins_kept (left_at all.left place differs)
          (subst (λ (those : Outcome). BeginsAs (slot_at run.outputs place) (slot_at (slots_of those.part) place))
          (sym same_too) (begins place differs))
      | inr (fault, bad, refuses) ↦ λ place differs. rw refuses.slots (bare_begins refuses.error place differs)
    ]
