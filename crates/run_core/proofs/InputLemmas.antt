-- Lemmas on what a run leaves of its inputs, on one input, on the inputs for names, one after another, and on how a run ends.
use Rattle.std.proofs.{
  lemmas.{
    Grind.common_steps,
    Bool.{false≢true, or_parts, or_left, or_right, false_from_ne_true},
    List.{append-nil, nil_from_length, Recursion.and_push},
  },
  Common.{◌≡◌, ℕ, ◌+◌, ◌<◌, ◌≤◌, zero, suc, Bool, true, false, ◌||◌, IsTrue, if◌then◌else◌, List, [], ◌∷◌},
  Common.{◌++◌, ◌&&◌, length, Option, Some, None, IfSome, arith, inl, inr, refl, ◌⊎◌, not, take, Result, Ok, Err, sym, ◌∙◌},
  Common.{ap, subst, lit≤, codes, ◌-◌, drop, map, get_or, Bor, append_assoc, lit<, rules},
  Math.Bool.{and-false, and-true, or-false, or-true, or_assoc},
}
use Rattle.ports_core.specs.{
  Source.{Content, Source, source_at, source_of, is_readable, missing, Opens, OpensNothing, IsFresh},
  Source.Opens as OpensFile,
  declared.{
    fault.Fault.{Fault, TheVariants.{Memory, Write, Read, Open}},
    verdict.Verdict.Verdict,
    calling.Speaker.Speaker,
    reason.Reason.{Reason, TheVariants.Other},
  },
  Inputs.{CameFrom, KeepsOthers, OfContent, AsksAtMost, empty, largest_piece},
  Slot.{Slot, adds, is_open, slot_at, is_writable, visible_of, with_written, streams},
  Text.{Message, message_of, status_after},
  Message.{SaysFor, SaysOn, SaysAll, Tells, TellsOn, output_named, output_reason},
  Streams.{streams_with, standard_output, standard_error},
}
use Rattle.engine_core.specs.{Work.Work, Written.{Written, only_out, OutputsAt}, Swept.Swept}
use Rattle.ports_core.proofs.{
  InputsLemmas.{came_sound, sound_at, fresh_asks},
  WriteLemmas.writable-written,
  SlotLemmas.length-changed_at,
  MessageLemmas.{all_said_state, says_after},
}
use Rattle.engine_core.proofs.WrittenLemmas.{out_more, out_cut, part_begins_itself, stopped_here, broken_at, nothing_out}
use Rattle.ports_core.proofs.InputsLemmas.{looked_readable}
use Rattle.run_core.specs.{
  Feeding.{IsCall, IsUntaken, Step, SawEnd, Uses, is_enough, FedAs, whole, had_enough, broke_off, judged, stopped},
  Input.{Input, World, IsFor, shown_of, showing, is_dash, input_of, inputs_from, next_slot, has_dash, AreFrom},
  Input.{inputs_at, file_input, standard_input, read_before},
  Reading.{AreDone, AreUntouched, IsDone, IsUntouched, LeavesAt, count_after, reason_of},
  inner.RunSteps.{TakesOne, OfSource, HeaderFails, no_room, broke, TookInput, took, cut_off, input_from, TookAll},
  inner.RunSteps.{all, stopped_at, not_begun, HasStreams, OfName, RunStart, TookName, TookSource, standard_source, start_at},
  declared.{inputs.RunProgress.RunProgress, feeding.Fed.{Fed, TheVariants.{Whole, Enough, Broken}}},
  RunEnds.{unheaded, heading, calling, step_after, EndsAs, as_defined, stopped as run_stopped, no_room as run_unmade},
  RunEnds.{RunsOver, StoppedAt, unopened, SaysFrom, SaysOf},
  RunSteps.{IsShown, OnlyLooked, world_of},
  Task.{Task, Outcome, after_part, header_text, of_content, made_by, no_outcome, joined, of_input, of_inputs},
  Task.{is_missing, are_missing},
}
use Rattle.run_core.proofs.{
  StopLemmas.{after_assoc, out_on, at_after, stop_after, none_to_sweep, nothing_after, swept_from, said_swept},
  StopLemmas.{HasError, Reported, error_open, reported, stop_error, said_at},
}
use Rattle.ports_core.specs.Source as from
use Rattle.ports_core.specs.declared.fault.Fault.TheVariants as fault_is

-- one input more

pub last_source : (sources : List Source) {source : Source}
    → source_at (sources ++ source ∷ []) (length sources) ≡ source
last_source sources = grind (arith, common_steps)

-- an input of which nothing was read, before a step that needs none of it

left_unread : (visible : Bool) {content : Content} (slot : ℕ) (sources : List Source)
    → IsTrue (is_readable sources slot)
    → IsUntaken (source_at sources slot) → (visible ≡ true → content.bytes ≡ (source_at sources slot).left.bytes)
    → (visible ≡ false → content.breaks_off ≡ false)
    → (step : Step) → step.read ≡ [] → step.ended ≡ false → LeavesAt visible content (Some slot) sources step
left_unread visible slot sources can unread there sound step none going = (
  record {
    came = came_sound visible sources slot can sound;
    sound = sound_at sources slot can;
    ended = λ ends. absurd (false≢true (sym going ∙ ends));
    joined = λ t. rw none (there t);
  },
  λ t standard. omega arith,
)

pub unread_source : (visible : Bool) (source : Option ℕ) (sources : List Source) (Q : Content → Type 0)
    → IfSome source (λ slot. IsTrue (is_readable sources slot))
    → IfSome source (λ slot. IsUntaken (source_at sources slot))
    → ((content : Content)
    → ((step : Step) → step.read ≡ [] → step.ended ≡ false → LeavesAt visible content source sources step) → Q content)
    → OfSource visible source sources Q
unread_source visible None sources Q can unread holds = holds empty (λ step none going. tt)
unread_source true (Some slot) sources Q can unread holds = (
  (source_at sources slot).left,
  λ t. refl,
  holds (source_at sources slot).left (left_unread true slot sources can unread (λ t. refl) (λ off. absurd (cc))),
)
unread_source false (Some slot) sources Q can unread holds =
    (empty, λ t. absurd (cc), holds empty (left_unread false slot sources can unread (λ t. absurd (cc)) (λ off. refl)))

-- a source that was looked at is as it was, except for what was asked of it

pub of_looked : (visible : Bool) (most : ℕ) (source : Option ℕ) (old new : List Source) (Q : Content → Type 0)
    → OnlyLooked most source old new → OfSource visible source new Q → OfSource visible source old Q
of_looked visible most None old new Q same holds = holds
of_looked visible most (Some _) old new Q looked (content, is, holds) = (content, λ t. cc (is t, looked.looked), holds)

pub looked_can : (most : ℕ) (source : Option ℕ) (old new : List Source) → OnlyLooked most source old new
    → IfSome source (λ slot. IsTrue (is_readable old slot)) → IfSome source (λ slot. IsTrue (is_readable new slot))
looked_can most None old new looked can = tt
looked_can most (Some _) old new looked can = looked_readable looked can

pub looked_unread : (most : ℕ) (source : Option ℕ) (old new : List Source) → OnlyLooked most source old new
    → IfSome source (λ slot. IsUntaken (source_at old slot)) → IfSome source (λ slot. IsUntaken (source_at new slot))
looked_unread most None old new looked unread = tt
looked_unread most (Some _) old new looked unread = rw looked.looked unread

-- some text, or none, is what a source shows
pub shows_something : (visible : Bool) (source : Option ℕ) (sources : List Source)
    → (shown : Option (List ℕ)) × IsShown visible source sources shown
shows_something visible None sources = (None, refl)
shows_something visible (Some slot) sources = ((source_at sources slot).left.shown, λ t. refl)

-- an input that could be read is still there
pub still_within : {source : Option ℕ} {slot : ℕ} {old new : List Source} → source ≡ Some slot
    → IfSome source (λ slot. IsTrue (is_readable old slot)) → KeepsOthers slot old new → slot < length new
still_within is can keeps = grind (arith, common_steps)

-- an input that was fed to an engine, unless a fault stopped it
pub left_of : {visible : Bool} {work : Work} {most slot : ℕ} {there : Content} (sources : List Source)
    (P Q : Content → Type 0) {stops : Bool} → slot < length sources → ((content : Content) → P content → Q content)
    → (visible ≡ true → stops ≡ false → Uses work most slot there (source_at sources slot))
    → OfContent visible there (λ content. (P content × (stops ≡ false → SawEnd work content (source_at sources slot)))
    × CameFrom visible content (source_at sources slot))
    → OfContent visible there (λ content. Q content
    × (stops ≡ false → IsDone visible work most (Some slot) (Some content) sources))
left_of sources P Q within more uses (content, is, ((holds, ends), came)) =
    (content, is, (more content holds, λ goes. (within, (λ visible. rw (is visible) (uses visible goes), came, ends goes))))

-- how many names there can be

pub count_more : (count : ℕ) (names : List (List ℕ)) → count ≤ count_after count names
count_more count [] = omega arith
count_more count (name ∷ names) =
    let rest : next_slot count name ≤ count_after (next_slot count name) names = count_more (next_slot count name)
    names in at_least (is_dash name) _ rest where
      at_least : (dash : Bool) (most : ℕ) → (if dash then count else count + 1) ≤ most → count ≤ most
      at_least true most less = less
      at_least false most less = omega arith

-- what taking a name leaves

takes_none : {most : ℕ} {was_read : Bool} {name : List ℕ} {old new : List Source} → new ≡ old
    → TakesOne most was_read name old new
takes_none same = grind (arith, common_steps)

pub takes_file : {visible : Bool} {laid : ℕ → List ℕ → Option Content} {most : ℕ} {was_read : Bool} {name : List ℕ}
    {old mid new : List Source} {slot : ℕ} → is_dash name ≡ false → 0 < length old
    → Opens visible laid old mid name slot
    → KeepsOthers slot mid new → (AsksAtMost most mid → AsksAtMost most new)
    → TakesOne most was_read name old new
takes_file differs some opens keeps asked = grind (arith, common_steps)

pub takes_missing : {visible : Bool} {laid : ℕ → List ℕ → Option Content} {most : ℕ} {was_read : Bool} {name : List ℕ}
    {old new : List Source} {fault : Fault} → is_dash name ≡ false → 0 < length old
    → OpensNothing visible laid old new name fault → TakesOne most was_read name old new
takes_missing differs some (from.broke at _ number lies is) = grind (arith, common_steps)
takes_missing differs some (from.no_room is) = takes_none is

-- an input that can't be opened uses up its number
pub opens_missing : {visible : Bool} {laid : ℕ → List ℕ → Option Content} {name : List ℕ} {old new : List Source}
    {fault : Fault} {slot : ℕ} → is_dash name ≡ false → OpensNothing visible laid old new name fault
    → fault ≡ Open slot → length new ≡ next_slot (length old) name
opens_missing differs (from.broke at _ number lies is) cannot = grind (arith, common_steps)
opens_missing differs (from.no_room is) cannot = absurd (cc)

-- a file that could not be opened is not open
pub missing_done : (visible : Bool) (work : Work) (most : ℕ) (why : Reason) (old : List Source) {new : List Source}
    → new ≡ old ++ missing why ∷ [] → IsDone visible work most (Some (length old)) None new
missing_done visible work most why old is = grind (arith, common_steps)

-- the inputs that were done stay so

abbrev pub StaysDone : Bool → Work → ℕ → Bool → Option ℕ → Option Content → List Source → Type 0
StaysDone visible work most was_read None content sources = Unit {0}
StaysDone visible work most was_read (Some slot) content sources = (slot ≡ 0 → was_read ≡ true) × IsDone visible work most (Some slot) content sources

abbrev pub StayDone : Bool → (Option (List ℕ) → Work) → ℕ → Bool → List Input → List Source → Type 0
StayDone visible work most was_read [] sources = Unit {0}
StayDone visible work most was_read (input ∷ inputs) sources =
    StaysDone visible (work input.shown) most was_read input.slot input.content sources × StayDone visible work most was_read inputs sources

still_done_at : (visible : Bool) (work : Work) (most : ℕ) {room : ℕ} {was_read now_read : Bool} {name : List ℕ}
    (slot : Option ℕ) (content : Option Content) {old new : List Source} → (was_read ≡ true → now_read ≡ true)
    → TakesOne room was_read name old new
    → StaysDone visible work most was_read slot content old → StaysDone visible work most now_read slot content new
still_done_at visible work most None content reads takes done = tt
still_done_at visible work most (Some zero) content reads takes done = grind (arith, common_steps)
still_done_at visible work most (Some (suc _)) content reads takes done = grind (arith, common_steps)

pub still_done : (visible : Bool) (work : Option (List ℕ) → Work) (most : ℕ) {room : ℕ} {was_read now_read : Bool}
    {name : List ℕ} (inputs : List Input) {old new : List Source} → (was_read ≡ true → now_read ≡ true)
    → TakesOne room was_read name old new
    → StayDone visible work most was_read inputs old → StayDone visible work most now_read inputs new
still_done visible work most [] reads takes done = tt
still_done visible work most (input ∷ inputs) reads takes done =
    (still_done_at visible (work input.shown) most input.slot input.content reads takes done.0, still_done visible work most inputs reads takes done.1)

-- the messages on the inputs that were done have the reasons that they had

same_reason : (visible : Bool) (work : Work) (most : ℕ) {room : ℕ} {was_read : Bool} {name : List ℕ} (slot : Option ℕ)
    (content : Option Content) {old new : List Source} → TakesOne room was_read name old new
    → StaysDone visible work most was_read slot content old → reason_of slot new ≡ reason_of slot old
same_reason visible work most None content takes done = refl
same_reason visible work most (Some zero) content takes done = grind (arith, common_steps)
same_reason visible work most (Some (suc _)) content takes done = grind (arith, common_steps)

still_said : (visible_in visible : Bool) (task : Task) (most : ℕ) {room : ℕ} {was_read : Bool} {name : List ℕ}
    (inputs : List Input) {old new : List Source} (before after : Slot) → TakesOne room was_read name old new
    → StayDone visible_in task.work most was_read inputs old → SaysOf visible task old inputs before after
    → SaysOf visible task new inputs before after
still_said visible_in visible task most [] before after takes done says = says
still_said visible_in visible task most (input ∷ inputs) before after takes done (mid, one, says) = (
  mid,
  subst (λ why. SaysFrom visible task.speaker why (of_input task true input).messages before mid)
      (sym (same_reason visible_in (task.work input.shown) most input.slot input.content takes done.0)) one,
  still_said visible_in visible task most inputs mid after takes done.1 says,
)

said_more : (visible : Bool) (task : Task) (sources : List Source) (inputs : List Input) (input : Input)
    (before mid after : Slot) → SaysOf visible task sources inputs before mid
    → SaysFrom visible task.speaker (reason_of input.slot sources) (of_input task true input).messages mid after
    → SaysOf visible task sources (inputs ++ input ∷ []) before after
said_more visible task sources [] input before mid after is one = (
  after,
  subst (λ old. SaysFrom visible task.speaker (reason_of input.slot sources)
      (of_input task true input).messages old after) is one,
  refl,
)
said_more visible task sources (first ∷ inputs) input before mid after (between, here, says) one =
    (between, here, said_more visible task sources inputs input between mid after says one)

-- the header changes no message
messages_alike : (task : Task) (work : Work) (is_first : Bool) (name : List ℕ) (content : Option Content)
    → (of_content task work is_first name content).messages ≡ (of_content task work true name content).messages
messages_alike task work is_first name None = refl
messages_alike task work is_first name (Some _) = refl

said_from : (visible : Bool) (speaker : Speaker) (why : Reason) (messages : List Message) (old new : Slot)
    → SaysFrom visible speaker why messages old new → SaysAll visible speaker messages old new
said_from visible speaker why [] old new says = says
said_from visible speaker why (message ∷ messages) old new (mid, one, says) =
    (mid, (why, one), said_from visible speaker why messages mid new says)

-- all messages of a run, without their reasons
pub said_of : (visible : Bool) (task : Task) (is_first : Bool) (sources : List Source) (inputs : List Input)
    (old new : Slot) → SaysOf visible task sources inputs old new
    → SaysAll visible task.speaker (of_inputs task is_first inputs).messages old new
said_of visible task is_first sources [] old new says = says
said_of visible task is_first sources (input ∷ inputs) old new (mid, one, says) =
    says_after visible task.speaker (of_input task is_first input).messages _ old mid new
    (said_from visible task.speaker (reason_of input.slot sources) _ old mid
    (subst (λ those. SaysFrom visible task.speaker (reason_of input.slot sources) those old mid)
    (sym (messages_alike task (task.work input.shown) is_first input.name input.content)) one))
    (said_of visible task (is_first && is_missing input.content) sources inputs mid new says)

said_state : (visible : Bool) (task : Task) (sources : List Source) (inputs : List Input) (old new : Slot)
    → SaysOf visible task sources inputs old new → new.state ≡ old.state
said_state visible task sources inputs old new says =
    all_said_state visible task.speaker _ old new (said_of visible task true sources inputs old new says)

pub done_more : (visible : Bool) (work : Option (List ℕ) → Work) (most : ℕ) (was_read : Bool) (inputs : List Input)
    (input : Input) (sources : List Source) → StayDone visible work most was_read inputs sources
    → StaysDone visible (work input.shown) most was_read input.slot input.content sources
    → StayDone visible work most was_read (inputs ++ input ∷ []) sources
done_more visible work most was_read [] input sources done one = (one, tt)
done_more visible work most was_read (first ∷ inputs) input sources done one = (done.0, done_more visible work most was_read inputs input sources done.1 one)

done_at : (visible : Bool) (work : Work) (most : ℕ) (was_read : Bool) (slot : Option ℕ) (content : Option Content)
    (sources : List Source) → StaysDone visible work most was_read slot content sources
    → IsDone visible work most slot content sources
done_at visible work most was_read None content sources done = tt
done_at visible work most was_read (Some _) content sources done = done.1

pub all_done : (visible : Bool) (work : Option (List ℕ) → Work) (most : ℕ) (was_read : Bool) (inputs : List Input)
    (sources : List Source) → StayDone visible work most was_read inputs sources
    → AreDone visible work most inputs sources
all_done visible work most was_read [] sources done = tt
all_done visible work most was_read (input ∷ inputs) sources done =
    (done_at visible (work input.shown) most was_read input.slot input.content sources done.0, all_done visible work most was_read inputs sources done.1)

pub done_with : (visible : Bool) (work : Work) (most : ℕ) (was_read : Bool) {count : ℕ} (name : List ℕ) {input : Input}
    (sources : List Source) → IsFor was_read count name input → 0 < count
    → IsDone visible work most input.slot input.content sources
    → StaysDone visible work most (was_read || is_dash name) input.slot input.content sources
done_with visible work most was_read name sources (world, shown, is) some done = grind (arith, common_steps)

-- the inputs after the place where a run was stopped were not touched

pub rest_untouched : (world : World) (was_read : Bool) (slot : ℕ) (names : List (List ℕ)) (sources : List Source)
    → (was_read ≡ false → source_at sources 0 ≡ source_of world.standard) → length sources ≤ slot
    → AreUntouched (inputs_from world was_read slot names) sources
rest_untouched world was_read slot [] sources unread few = tt
rest_untouched world was_read slot (name ∷ names) sources unread few = (
  by_name was_read (is_dash name) unread,
  rest_untouched world (was_read || is_dash name)
      (next_slot slot name) names sources (λ none. unread (or_parts was_read _ none).0)
      (let more : slot ≤ next_slot slot name = count_more slot (name ∷ []) in omega arith),
) where
  by_name : (was dash : Bool) → (was ≡ false → source_at sources 0 ≡ source_of world.standard)
      → (let input = input_of world was slot name dash in IsUntouched input.slot input.content sources)
  by_name true true at_first = tt
  by_name false true at_first = inr (world.standard, refl, at_first refl)
  by_name was false at_first = inl few

-- Lemmas on one input of a run.

-- the streams

pub part_writable : {visible : Bool} {error : Slot} {part : Written} {slots : List Slot}
    → OutputsAt visible (streams_with error) part slots → IsTrue (is_writable slots 0)
part_writable at = rw at.slots refl

pub part_two : {visible : Bool} {error : Slot} {part : Written} {slots : List Slot}
    → OutputsAt visible (streams_with error) part slots → 2 ≤ length slots
part_two at = grind (arith, common_steps)

-- the header was written
pub headed : {visible : Bool} {base : List Slot} {so_far : Written} (text : List ℕ) {old mid : List Slot}
    → OutputsAt visible base so_far old → mid ≡ with_written 0 (visible_of visible text) old
    → OutputsAt visible base (after_part so_far (only_out text)) mid
headed {visible} {base} {so_far} text {old} {mid} at wrote = rw (out_on so_far text) at (out_more visible base so_far old mid text at wrote)

pub headed_count : (visible : Bool) (text : List ℕ) (old : List Slot) {mid : List Slot}
    → mid ≡ with_written 0 (visible_of visible text) old → length mid ≡ length old
headed_count visible text old wrote = ap length wrote ∙ length-changed_at 0 _ old

-- the source of an input

pub of_source_too : (visible : Bool) (source : Option ℕ) (sources : List Source) (A B Q : Content → Type 0)
    → ((content : Content) → A content → B content → Q content)
    → OfSource visible source sources (λ content. A content × B content) → OfSource visible source sources Q
of_source_too visible None sources A B Q more (one, two) = more _ one two
of_source_too visible (Some _) sources A B Q more (content, there, both) = grind (arith, common_steps)

pub from_source : (visible : Bool) (source : Option ℕ) (sources : List Source) (A B : Content → Type 0) (Q : Type 0)
    → ((content : Content) → A content → B content → Q)
    → OfSource visible source sources (λ content. A content × B content) → Q
from_source visible None sources A B Q more (one, two) = more _ one two
from_source visible (Some _) sources A B Q more (content, there, both) = search rules

-- what is made of an input, by how it ends

made_well : (task : Task) (work : Work) (is_first : Bool) (name : List ℕ) (content : Content)
    → is_enough work content ≡ true → work.verdict content.bytes ≡ None
    → of_content task work is_first name (Some content)
    ≡ record {
      part = after_part (only_out (header_text task.with_header is_first name))
          (work.whole content.bytes);
      messages = [];
      failed = false;
      sweeps = false;
    }
made_well task work is_first name content enough well = search rules

-- the header could not be written

pub stopped_in_header : {visible_in visible : Bool} {task : Task} {most : ℕ} {progress : RunProgress} {name : List ℕ}
    {source : Option ℕ} {shown : Option (List ℕ)} {content : Content} {found sources : List Source}
    {old new : List Slot} {fault : Fault} (had : HasStreams visible old) → task.with_header ≡ true
    → ((step : Step) → step.read ≡ [] → step.ended ≡ false → LeavesAt visible_in content source sources step)
    → HeaderFails visible (header_text task.with_header progress.is_first name) old new fault
    → TookInput visible_in task (input_from name source shown content) (start_at had progress most found) sources new
    (Err fault)
stopped_in_header {visible} {task} {content = content} {old = old} {new} had due unread (no_room is) = cut_off Memory (record {
  step = _;
  is = unheaded content refl due (unread _ refl refl);
  reached = new;
  stops = refl;
  between = stopped_here _ visible (streams_with had.error) had.part had.part Memory old new had.at (part_begins_itself had.part) is tt tt;
  swept = none_to_sweep _ new (omega (arith, ap length is));
})
stopped_in_header {visible} {task} {progress = progress} {name} {content = content} {old = old} {new} had due unread (broke n after) =
    let text = header_text task.with_header progress.is_first name in
    let count : length new ≡ length old = simp length-changed_at at (ap length after.slots.1) in
    let lost = ap (λ those. (slot_at those 0).is_broken) after.slots.1
    ∙ broken_at _ 0 _ (writable-written old 0 0 (visible_of visible (take n text)) ∙ part_writable had.at) in
    cut_off (Write 0) (record {
      step = _;
      is = heading content refl due (unread _ refl refl);
      reached = new;
      stops = (λ _. refl, λ alone. refl, lost);
      between = rw (out_on had.part text) at (out_cut visible (streams_with had.error) had.part old new text n had.at after);
      swept = none_to_sweep _ new (omega arith);
    })

-- one input was done, by what is made of it
took_as : {visible : Bool} {task : Task} {input : Input} {start : RunStart} {sources : List Source} {new : List Slot}
    {made : Outcome} → made ≡ of_input task start.progress.is_first input
    → (next : RunProgress) (after : Slot) (reached : List Slot)
    → next ≡ record start.progress {
      is_first = start.progress.is_first && is_missing input.content;
      failed = start.progress.failed || made.failed;
    }
    → IsDone visible (task.work input.shown) start.most input.slot input.content sources
    → SaysFrom start.visible task.speaker (reason_of input.slot sources) made.messages start.error after
    → OutputsAt start.visible (streams_with after) (after_part start.part made.part) reached
    → Swept made.sweeps start.count reached new → TookInput visible task input start sources new (Ok next)
took_as is next after reached past done says at swept =
    took next after reached (rw is at past) done (rw is at says) (rw is at at) (rw is at swept)

-- the engine's part of an input, after the header
module _ (visible_in : Bool) {visible : Bool} (task : Task) (most : ℕ) (progress : RunProgress) (name : List ℕ)
    (source : Option ℕ) (shown : Option (List ℕ)) (found sources : List Source) {start : List Slot} (mid : List Slot)
    (had : HasStreams visible start)
    (wrote : mid
    ≡ with_written 0 (visible_of visible (header_text task.with_header progress.is_first name)) start) where
  abbrev work : Work
  work = task.work shown

  abbrev header : Written
  header = only_out (header_text task.with_header progress.is_first name)

  at : OutputsAt visible (streams_with had.error) (after_part had.part header) mid
  at = headed _ had.at wrote

  counted : length mid ≡ length start
  counted = headed_count visible _ start wrote

  abbrev taken : Bool → RunProgress
  taken fails = record progress { is_first = false; failed = fails }

  abbrev WasDone : Content → Type 0
  WasDone content = IsDone visible_in work most source (Some content) sources

  abbrev WasFed : Content → List Slot → Result Fed Fault → Type 0
  WasFed content = FedAs visible mid work content (λ call. IsCall work (task.opening shown) most content call
      × LeavesAt visible_in content source sources call)

  abbrev pub TookSo : Content → List Slot → Result RunProgress Fault → Type 0
  TookSo content new result = TookInput visible_in task (input_from name source shown content)
      (start_at had progress most found) sources new result

  part_after : (error_now : Slot) (part : Written) {reached : List Slot}
      → OutputsAt visible (streams_with error_now)
      (after_part (after_part had.part header) part) reached
      → OutputsAt visible (streams_with error_now)
      (after_part had.part (after_part header part)) reached
  part_after error_now part there = rw (after_assoc had.part header part) at there

  -- the engine's part went well
  went_well : (content : Content) (new : List Slot)
      → WasDone content → is_enough work content ≡ true
      → work.verdict content.bytes ≡ None → OutputsAt visible mid (work.whole content.bytes) new
      → TookSo content new (Ok (taken progress.failed))
  went_well content new done enough well there =
      took_as (sym (made_well task work progress.is_first name content enough well)) (taken progress.failed) had.error new
      (simp (and-false, or-false)) done refl (part_after had.error _ (at_after at there)) refl

  -- a message is due
  went_badly : (content : Content) (part : Written) (message : Message) (reached old new : List Slot)
      → WasDone content
      → of_content task work progress.is_first name (Some content)
      ≡ record {
        part = after_part header part;
        messages = message ∷ [];
        failed = true;
        sweeps = work.clears;
      }
      → OutputsAt visible mid part reached → Swept work.clears (length mid) reached old
      → SaysOn visible task.speaker (reason_of source sources) message old new
      → TookSo content new (Ok (taken true))
  went_badly content part message reached old new done made there swept says =
      let top = adds (visible_of visible (after_part had.part (after_part header part)).out) standard_output in
      let all = part_after had.error part (at_after at there) in
      let said = said_swept (SaysFor visible task.speaker (reason_of source sources) message) work.clears old new (length start)
      (part_two had.at) (rw all.slots at (rw counted at swept)) says in
      took_as (sym made) (taken true) said.after (top ∷ said.after ∷ _)
      (simp (and-false, or-true)) done (said.after, said.says, refl)
      (record { standard = lit< tt; slots = refl }) said.swept

  pub took_well : {content : Content} {new : List Slot} {fed : Fed}
      → WasDone content → (fed ≡ Whole) ⊎ (fed ≡ Enough)
      → WasFed content new (Ok fed) → TookSo content new (Ok (taken progress.failed))
  took_well {content} {new} done good (whole sound _ well there) = went_well content new done (or_left _ _ (ap not sound)) well there
  took_well {content} {new} done good (had_enough complete well there) = went_well content new done (or_right _ _ complete) well there
  took_well done good (broke_off breaks going reached there swept) = absurd (elim good [ inl is ↦ cc | inr is ↦ cc ])

  pub took_broken : {content : Content} {old new : List Slot} {fed : Fed}
      → WasDone content → fed ≡ Broken
      → WasFed content old (Ok fed)
      → SaysOn visible task.speaker (reason_of source sources) (message_of (Read 0) name) old new
      → TookSo content new (Ok (taken true))
  took_broken {content} {old} {new} done is (broke_off breaks going reached there swept) says =
      went_badly content (work.settled content.bytes) (message_of (Read 0) name) reached old new done
      (let short : is_enough work content ≡ false = rw breaks going in simp (short, and-true))
      there swept says
  took_broken done is ends says = absurd (cc)

  pub took_verdict : {content : Content} {old new : List Slot} {verdict : Verdict}
      → WasDone content
      → WasFed content old (Err (fault_is.Verdict verdict))
      → SaysOn visible task.speaker (reason_of source sources)
      (message_of (fault_is.Verdict verdict) (task.subject verdict name)) old new
      → TookSo content new (Ok (taken true))
  took_verdict {content} {old} {new} {verdict} done (judged _ enough judges reached there swept) says =
      went_badly content (work.whole content.bytes)
      (message_of (fault_is.Verdict verdict) (task.subject verdict name)) reached old new done (simp (enough, judges, and-true)) there swept says
  took_verdict done (stopped _ unjudged stop) says = absurd (cc)

  pub took_stopped : {content : Content} {new : List Slot} {fault : Fault}
      → ((verdict : Verdict) → fault ≡ fault_is.Verdict verdict → ⊥)
      → WasFed content new (Err fault) → TookSo content new (Err fault)
  took_stopped other (judged verdict enough judges reached there swept) = absurd (other verdict refl)
  took_stopped {content} {fault} other (stopped _ is stop) = cut_off fault (record {
    step = step_after (after_part had.part header) stop.step;
    is = calling content stop.step refl stop.is.0 stop.is.1;
    reached = stop.reached;
    stops = stop.stops;
    between = stop_after at stop.between;
    swept = rw counted at stop.swept;
  })

-- standard error is open after an input was fed

pub swept_open : (clears : Bool) (reached new : List Slot) {first : ℕ} → 2 ≤ first
    → is_open (slot_at reached 1).state ≡ true → Swept clears first reached new → is_open (slot_at new 1).state ≡ true
swept_open clears reached new past opened swept = grind (arith, common_steps)

pub fed_open : {visible : Bool} {work : Work} {error : Slot} {part : Written} {mid new : List Slot} {content : Content}
    (IsStep : Step → Type 0) {result : Result Fed Fault}
    → is_open error.state ≡ true → OutputsAt visible (streams_with error) part mid
    → FedAs visible mid work content IsStep new result → is_open (slot_at new 1).state ≡ true
fed_open IsStep opened at (whole sound going well there) = cc
fed_open IsStep opened at (had_enough complete well there) = cc
fed_open IsStep opened at (broke_off breaks going _ there swept) = grind (arith, common_steps)
fed_open IsStep opened at (judged _ enough judges _ there swept) = grind (arith, common_steps)
fed_open IsStep opened at (stopped _ is stop) =
    let between = stop.between in let swept = stop.swept in grind (arith, common_steps)

-- Lemmas on how a run ends.

-- the run that reached the end of its inputs
pub ran_through : {visible_in visible : Bool} {task : Task} {found : List Input}
    {sources : List Source} {new : List Slot} {failed : Bool} {status : ℕ} → status ≡ (if failed then 1 else 0)
    → TookAll visible_in visible task found sources new (Ok failed)
    → EndsAs visible_in visible task found sources new status
ran_through is (all _ same done) = as_defined done (rw same at is)

-- standard error is there for the fault that stopped the run
stopped_error : {visible_in visible : Bool} {task : Task} {found : List Input} {sources : List Source} {fault : Fault}
    {new : List Slot} (at : StoppedAt visible_in visible task found sources fault new) → HasError at.stop.reached
stopped_error {visible} {task} {sources = sources} at =
    stop_error (ap is_open (said_state visible task sources at.before standard_error at.error at.says)) at.stop.between

pub stop_open : {visible_in visible : Bool} {task : Task} {found : List Input} {sources : List Source} {new : List Slot}
    {fault : Fault} → TookAll visible_in visible task found sources new (Err fault)
    → is_open (slot_at new 1).state ≡ true
stop_open (stopped_at _ at) = swept_open _ at.stop.reached _ (lit≤ tt) (error_open (stopped_error at)) at.stop.swept
stop_open (not_begun is untouched none) = grind (arith, common_steps)

-- the run that a fault stopped
pub ran_into : {visible_in visible : Bool} {task : Task} {found : List Input} {sources : List Source}
    {mid new : List Slot}
    {fault : Fault} {status : ℕ}
    → TookAll visible_in visible task found sources mid (Err fault)
    → TellsOn visible task.speaker fault mid new
    → status ≡ status_after fault task.speaker.calling (output_reason mid fault)
    → EndsAs visible_in visible task found sources new status
ran_into {mid = mid} (stopped_at fault at) tells is = run_stopped fault mid at tells is
ran_into (not_begun at_first untouched none) tells is =
    let said = tells standard_output standard_error [] at_first in
    run_unmade said.0 (said.0, (Other, said.1), refl) said.2 untouched none is

-- what its report changed
pub told_stop : {visible_in visible : Bool} {task : Task} {found : List Input} {sources : List Source} {fault : Fault}
    {mid new : List Slot} → StoppedAt visible_in visible task found sources fault mid
    → TellsOn visible task.speaker fault mid new
    → Reported (Tells visible task.speaker (output_reason mid fault) fault (output_named mid fault)) mid new
told_stop {task = task} {new = new} at tells =
    reported (task.work at.input.shown).clears (stopped_error at) _ new at.stop.swept tells

-- Lemmas on taking the inputs for names, one after another.

-- a list of words and its front

pub none_left : (left : List (Bor (List ℕ))) → length left < 1 → map (λ word. word.now) left ≡ []
none_left [] none = refl
none_left (word ∷ words) none = absurd (omega arith)

-- which input a name stands for

-- as much of an input, whichever sources there were before it
elsewhere : {visible : Bool} {task : Task} {input : Input} {start : RunStart} (found : List Source)
    {sources : List Source}
    {new : List Slot} {result : Result RunProgress Fault} → TookInput visible task input start sources new result
    → TookInput visible task input (record start { sources = found }) sources new result
elsewhere found (took next after reached is done says at swept) = took next after reached is done says at swept
elsewhere found (cut_off fault stop) = cut_off fault stop

of_file : {visible : Bool} (world : World) (was_read : Bool) {slot : ℕ} {name : List ℕ} {content : Option Content}
    (shown : Option (List ℕ)) (P : Input → Type 0) → is_dash name ≡ false
    → (visible ≡ true → world.laid slot name ≡ content) → (visible ≡ true → shown ≡ shown_of content)
    → P (showing shown (file_input name slot content)) → OfName visible world was_read slot name P
of_file world was_read {slot} {name} {content} shown P differs lies says holds = (
  showing shown (file_input name slot content),
  (record { laid = λ _ _. content; standard = empty }, shown, rw differs refl),
  λ t. rw (says t, differs, lies t) refl,
  holds,
)

dash_at : {visible : Bool} (was_read : Bool) (laid : ℕ → List ℕ → Option Content) (sources : List Source) (slot : ℕ)
    (name : List ℕ) (shown : Option (List ℕ)) (P : Input → Type 0) → is_dash name ≡ true
    → IsShown visible (standard_source was_read) sources shown
    → OfSource visible (standard_source was_read) sources
    (λ content. P (input_from (codes "standard input") (standard_source was_read) shown content))
    → OfName visible (world_of laid sources) was_read slot name P
dash_at true laid sources slot name shown P dash none holds = (
  read_before,
  (record { laid = laid; standard = empty }, None, rw dash refl),
  λ t. rw dash refl,
  rw none at holds,
)
dash_at false laid sources slot name shown P dash says (content, there, holds) = (
  showing shown (standard_input content),
  (record { laid = laid; standard = content }, shown, rw dash refl),
  λ t. rw (dash, says t, there t) refl,
  holds,
)

-- the file was opened
pub took_opened : {visible_in visible : Bool} {task : Task} {most : ℕ} {progress : RunProgress}
    {laid : ℕ → List ℕ → Option Content} {name : List ℕ} {old mid : List Source} {slot : ℕ} {start : List Slot}
    (had : HasStreams visible start) {sources : List Source} {new : List Slot} {result : Result RunProgress Fault}
    → is_dash name ≡ false → OpensFile visible_in laid old mid name slot
    → TookSource visible_in task name (Some slot) (start_at had progress most mid) sources new result
    → TookName visible_in laid task name (start_at had progress most old) sources new result
took_opened {progress = progress} {laid} {name} {old} {slot = slot} had differs opened_it (shown, says, (content, there, one)) =
    of_file (world_of laid old) progress.was_read shown _ differs (λ t. ap (λ n. laid n name) (sym opened_it.number) ∙ opened_it.lies t
    ∙ ap Some (sym (there t ∙ ap (λ (source : Source). source.left)
    (ap (λ those. source_at those slot) opened_it.sources
    ∙ ap (source_at (old ++ source_of opened_it.content ∷ [])) opened_it.number ∙ last_source old))))
    (λ t. rw (there t) (says t))
    (rw (differs, or-false) (rw opened_it.number at (elsewhere old one)))

-- standard input, for the operand `-`
pub took_standard : {visible_in visible : Bool} {task : Task} {most : ℕ} (progress : RunProgress) {source : Option ℕ}
    (laid : ℕ → List ℕ → Option Content) (name : List ℕ) (old : List Source) {start : List Slot}
    (had : HasStreams visible start) {sources : List Source} {new : List Slot} {result : Result RunProgress Fault}
    → source ≡ standard_source progress.was_read → is_dash name ≡ true
    → TookSource visible_in task (codes "standard input") source
    (start_at had (record progress { was_read = true }) most old) sources new result
    → TookName visible_in laid task name (start_at had progress most old) sources new result
took_standard {visible_in} {task = task} {most} progress laid name old had {sources} {new} {result} is dash (shown, says, holds) =
    let P = λ (read : Bool) (input : Input). TookInput visible_in task input
    (start_at had (record progress { was_read = read }) most old) sources new result in
    dash_at progress.was_read laid old (length old) name shown (P (progress.was_read || is_dash name)) dash (rw is at says)
    (rw (dash, or-true) (rw is at holds))

-- a name that could not be opened: it is passed over with a message

pub of_missing : {visible_in visible : Bool} {task : Task} {most : ℕ} {progress : RunProgress}
    {laid : ℕ → List ℕ → Option Content} {name : List ℕ} {sources after : List Source}
    {fault : Fault} {slot : ℕ} {old new : List Slot} (had : HasStreams visible old) → is_dash name ≡ false
    → OpensNothing visible_in laid sources after name fault → fault ≡ Open slot
    → SaysOn visible task.speaker (reason_of (Some slot) after) (message_of (Open slot) name) old new
    → TookName visible_in laid task name (start_at had progress most sources) after new
    (Ok (record progress { failed = true }))
of_missing {visible_in} {visible} {task} {most} {progress} {laid} {name} {sources} {after} {slot = slot} {new = new} had differs
    (from.broke _ reason number lies are) cannot says =
    of_file (world_of laid sources) progress.was_read None _ differs (λ t. ap (λ n. laid n name) (sym number) ∙ lies t) (λ t. refl)
    (let said = said_at had.at says in
    let same : slot ≡ length sources = grind (arith, common_steps) in
    took (record progress { failed = true }) said.0 new
    (simp (differs, or-false, and-true, or-true)) (missing_done visible_in (task.work None) most reason sources are)
    (said.0, subst (λ n. SaysFor visible task.speaker (reason_of (Some n) after) (message_of (Open 0) name) had.error said.0) same said.1, refl)
    (subst (λ part. OutputsAt visible (streams_with said.0) part new) (sym nothing_after) said.2) refl)
of_missing had differs (from.no_room are) cannot says = absurd (cc)

-- there was no room for it
pub of_no_room : {visible_in visible : Bool} {task : Task} {most : ℕ} (progress : RunProgress)
    {laid : ℕ → List ℕ → Option Content} {name : List ℕ} {sources after : List Source} {fault : Fault}
    {old : List Slot} (had : HasStreams visible old) → is_dash name ≡ false
    → OpensNothing visible_in laid sources after name fault → ((slot : ℕ) → fault ≡ Open slot → ⊥)
    → TookName visible_in laid task name (start_at had progress most sources) after old (Err fault)
of_no_room progress had differs (from.broke slot why number lies are) other = absurd (other slot refl)
of_no_room {visible = visible} progress {laid} {name} {sources} {old = old} had differs (from.no_room are) other =
    of_file (world_of laid sources) progress.was_read (shown_of (laid (length sources) name)) _ differs (λ t. refl) (λ t. refl)
    (cut_off Memory (record {
      step = _;
      is = unopened (length sources) refl (omega (arith, ap length are));
      reached = old;
      stops = refl;
      between = stopped_here _ visible (streams_with had.error) had.part had.part Memory old old had.at (part_begins_itself had.part) refl tt tt;
      swept = none_to_sweep _ old (omega arith);
    }))

-- the loop over names

joined_nothing : {a : Outcome} → joined a no_outcome ≡ a
joined_nothing = search rules

-- files are removed only if the work clears them
sweeps_clears : (task : Task) (work : Work) (is_first : Bool) (name : List ℕ) (content : Option Content)
    → (of_content task work is_first name content).sweeps ≡ true → work.clears ≡ true
sweeps_clears task work is_first name None sweeps = cc
sweeps_clears task work is_first name (Some _) sweeps = grind (arith, common_steps)

-- each input shows what it shows
pub says_itself : (input : Input) → showing input.shown input ≡ input
says_itself input = grind (arith, common_steps)

pub are_from : (world : World) (was_read : Bool) (slot : ℕ) (names : List (List ℕ))
    → AreFrom was_read slot names (inputs_from world was_read slot names)
are_from world was_read slot [] = refl
are_from world was_read slot (name ∷ names) =
    ((world, _, sym (says_itself _)), are_from world (was_read || is_dash name) (next_slot slot name) names)

-- what was done before the names that are left
pub record Walked (visible_in visible : Bool) (task : Task) (world : World) (names left : List (List ℕ))
    (progress : RunProgress)
    (laid : ℕ → List ℕ → Option Content) (sources : List Source) (slots : List Slot) : Type 0 where
  pub done : List Input
  pub made : Outcome
  pub error : Slot
  pub reached : List Slot
  pub at : OutputsAt visible (streams_with error) made.part reached
  pub swept : Swept made.sweeps 2 reached slots
  pub says : SaysOf visible task sources done standard_error error
  pub failed : progress.failed ≡ made.failed
  -- if the work clears files, there is at most one name
  pub alone : (shown : Option (List ℕ)) → (task.work shown).clears ≡ true
      → (left ≡ []) ⊎ ((length left ≤ 1) × (length slots ≡ 2))
  pub unswept : 1 ≤ length left → made.sweeps ≡ false
  pub first : progress.is_first ≡ are_missing done
  pub rest_made : (rest : List Input)
      → of_inputs task true (done ++ rest) ≡ joined made (of_inputs task progress.is_first rest)
  pub rest_are : (rest : List Input) → AreFrom progress.was_read (length sources) left rest
      → AreFrom false 1 names (done ++ rest)
  pub rest_there : visible_in ≡ true
      → done ++ inputs_from world progress.was_read (length sources) left ≡ inputs_at world names
  pub laid_same : laid ≡ world.laid
  pub standard : progress.was_read ≡ false → source_at sources 0 ≡ source_of world.standard
  pub some : 0 < length sources
  pub known : StayDone visible_in task.work largest_piece progress.was_read done sources
  pub asked : AsksAtMost largest_piece sources
  pub count : count_after (length sources) left ≡ count_after 1 names

pub walk_begins : {visible_in visible : Bool} {task : Task} {names : List (List ℕ)} {laid : ℕ → List ℕ → Option Content}
    {sources : List Source} {slots : List Slot} → IsFresh sources → slots ≡ streams
    → ((shown : Option (List ℕ)) → (task.work shown).clears ≡ true → length names ≤ 1)
    → Walked visible_in visible task (world_of laid sources) names names
    (record { was_read = false; is_first = true; failed = false }) laid sources slots
walk_begins {visible} {sources = sources} {slots} fresh are alone =
    let one : length sources ≡ 1 = ap length fresh.only in
    let at_first : source_at sources 0 ≡ source_of fresh.standard = ap (λ those. source_at those 0) fresh.only in
    record {
      done = [];
      made = no_outcome;
      error = standard_error;
      reached = slots;
      at = rw are (nothing_out visible (streams_with standard_error) (lit< tt));
      swept = refl;
      says = refl;
      failed = refl;
      alone = λ shown clears. inr (alone shown clears, ap length are);
      unswept = λ some. refl;
      first = refl;
      rest_made = λ rest. refl;
      rest_are = λ rest are_rest. rw one at are_rest;
      rest_there = λ t. rw one refl;
      laid_same = refl;
      standard = λ _. rw at_first refl;
      some = rw one (lit< tt);
      known = tt;
      asked = fresh_asks largest_piece sources fresh;
      count = rw one refl;
    }

module _ {visible_in visible : Bool} {task : Task} {world : World} {names left : List (List ℕ)} {progress : RunProgress}
    {laid : ℕ → List ℕ → Option Content} {sources : List Source} {slots : List Slot}
    (walked : Walked visible_in visible task world names left progress laid sources slots) where
  -- if names are left, no file was removed
  pub slots_at : 1 ≤ length left → OutputsAt visible (streams_with walked.error) walked.made.part slots
  slots_at some = grind (arith, common_steps, walked)

  pub walked_error : is_open walked.error.state ≡ true
  walked_error = rw (said_state visible task sources walked.done standard_error walked.error walked.says) refl

  pub walk_streams : 1 ≤ length left → HasStreams visible slots
  walk_streams some = record { part = walked.made.part; error = walked.error; at = slots_at some; opened = walked_error }

  -- all names were taken
  pub walk_ends : left ≡ []
      → RunsOver visible_in world names
      (λ found. TookAll visible_in visible task found sources slots (Ok progress.failed))
  walk_ends none =
      let made : made_by task (walked.done ++ []) ≡ walked.made = walked.rest_made [] ∙ joined_nothing in (
        walked.done ++ [],
        record {
          are = walked.rest_are [] (rw none refl);
          there = λ t. rw none at (walked.rest_there t);
        },
        all progress.failed (rw made walked.failed) (record {
          error = walked.error;
          says = rw (append-nil walked.done) walked.says;
          reached = walked.reached;
          outputs = rw made walked.at;
          swept = rw made walked.swept;
          done = rw (append-nil walked.done) (all_done _ _ _ _ _ _ walked.known);
        }),
      )

-- while standard input was not read, what it holds is known
same_input : {world : World} (was_read : Bool) (slot : ℕ) (name : List ℕ) (d : Bool)
    {laid : ℕ → List ℕ → Option Content} (sources : List Source) → laid ≡ world.laid
    → (was_read ≡ false → source_at sources 0 ≡ source_of world.standard)
    → input_of (world_of laid sources) was_read slot name d ≡ input_of world was_read slot name d
same_input was_read slot name false sources same standard = rw same
same_input true slot name true sources same standard = refl
same_input false slot name true sources same standard = rw (standard refl)

-- the only name was taken
taken_alone : {clears : Bool} {name : List ℕ} {left : List (List ℕ)} (slots : List Slot)
    → (clears ≡ true → ((name ∷ left) ≡ []) ⊎ ((length (name ∷ left) ≤ 1) × (length slots ≡ 2))) → clears ≡ true
    → (left ≡ []) × (length slots ≡ 2)
taken_alone {left} slots alone is = elim (alone is) [
  | inl none ↦ absurd (cc)
  | inr few ↦ (nil_from_length left (omega arith), few.1)
]

module _ {visible_in visible : Bool} {task : Task} {world : World} {names : List (List ℕ)} {name : List ℕ}
    {left : List (List ℕ)} {progress : RunProgress} {laid : ℕ → List ℕ → Option Content}
    {sources new_sources : List Source} {slots : List Slot} {most : ℕ}
    (walked : Walked visible_in visible task world names (name ∷ left) progress laid sources slots)
    (room : most ≡ largest_piece) (leaves : TakesOne largest_piece progress.was_read name sources new_sources) where
  unread_on : (progress.was_read || is_dash name) ≡ false → source_at new_sources 0 ≡ source_of world.standard
  unread_on unread = let both = or_parts progress.was_read _ unread in leaves.unasked both.1 ∙ walked.standard both.0

  done_on : StayDone visible_in task.work largest_piece (progress.was_read || is_dash name) walked.done new_sources
  done_on = still_done visible_in task.work largest_piece walked.done (λ had. rw had refl) leaves walked.known

  said_on : SaysOf visible task new_sources walked.done standard_error walked.error
  said_on = still_said visible_in visible task largest_piece walked.done standard_error walked.error leaves walked.known walked.says

  abbrev pub next_streams : HasStreams visible slots
  next_streams = record { part = walked.made.part; error = walked.error; at = slots_at walked (omega arith); opened = walked_error walked }

  -- what became of the name
  abbrev pub TookNext : List Slot → Result RunProgress Fault → Type 0
  TookNext = TookName visible_in laid task name (start_at next_streams progress most sources) new_sources

  -- one more name was taken
  pub walk_goes_on : {next : RunProgress} {new_laid : ℕ → List ℕ → Option Content} {new : List Slot}
      → length new_sources ≡ next_slot (length sources) name → new_laid ≡ laid
      → TookNext new (Ok next)
      → Walked visible_in visible task world names left next new_laid new_sources new
  walk_goes_on {next = next} {new = new} opened_it same (input, is_for, there, took _ after reached is is_done says at swept) =
      let one = of_input task progress.is_first input in
      let was : next.was_read ≡ (progress.was_read || is_dash name) = ap (λ (p : RunProgress). p.was_read) is in
      let unswept : walked.made.sweeps ≡ false = walked.unswept (omega arith) in
      let sweeps_one : (walked.made.sweeps || one.sweeps) ≡ one.sweeps = ap (λ (b : Bool). b || one.sweeps) unswept in
      let only : one.sweeps ≡ true → (left ≡ []) × (length slots ≡ 2) = λ sweeps. taken_alone slots
      (walked.alone input.shown) (sweeps_clears task (task.work input.shown) progress.is_first input.name input.content sweeps) in
      record {
        done = walked.done ++ input ∷ [];
        made = joined walked.made one;
        error = after;
        reached = reached;
        at = at;
        swept = rw sweeps_one (swept_from one.sweeps reached new (λ sweeps. (only sweeps).1) swept);
        says = said_more visible task new_sources walked.done input standard_error walked.error after said_on
            (subst (λ those. SaysFrom visible task.speaker (reason_of input.slot new_sources) those walked.error after)
            (messages_alike task (task.work input.shown) progress.is_first input.name input.content) says);
        failed = rw (is, walked.failed);
        alone = λ shown clears. inl (taken_alone slots (walked.alone shown) clears).0;
        unswept = λ some. sweeps_one ∙ false_from_ne_true one.sweeps (λ sweeps. omega (arith, ap length (only sweeps).0));
        first = rw (is, walked.first, and_push are_missing (λ (one : Input). is_missing one.content) refl (λ one inputs. refl) walked.done input);
        rest_made = λ rest. ap (of_inputs task true) (append_assoc walked.done (input ∷ []) rest) ∙ walked.rest_made (input ∷ rest)
            ∙ (simp (append_assoc, or_assoc))
            ∙ ap (λ (b : Bool). joined (joined walked.made one) (of_inputs task b rest)) (sym (ap (λ (p : RunProgress). p.is_first) is));
        rest_are = λ rest are_rest. rw (append_assoc walked.done (input ∷ []) rest)
            (walked.rest_are (input ∷ rest) (is_for, rw was at (rw opened_it at are_rest)));
        rest_there = λ t. append_assoc walked.done (input ∷ []) (inputs_from world next.was_read (length new_sources) left)
            ∙ ap (λ (first : Input). walked.done ++ first ∷ inputs_from world next.was_read (length new_sources) left)
            (there t ∙ same_input progress.was_read (length sources) name (is_dash name) sources walked.laid_same walked.standard)
            ∙ ap (λ n. walked.done ++ input_of world progress.was_read (length sources) name
            (is_dash name) ∷ inputs_from world next.was_read n left) opened_it
            ∙ ap (λ (b : Bool). walked.done ++ input_of world progress.was_read (length sources) name
            (is_dash name) ∷ inputs_from world b (next_slot (length sources) name) left) was
            ∙ walked.rest_there t;
        laid_same = same ∙ walked.laid_same;
        standard = λ unread. unread_on (sym was ∙ unread);
        some = omega arith;
        known = rw was (done_more visible_in task.work largest_piece (progress.was_read || is_dash name) walked.done input new_sources
            done_on
            (done_with visible_in (task.work input.shown) largest_piece progress.was_read name new_sources is_for walked.some
            (rw room at is_done)));
        asked = leaves.asked walked.asked;
        count = rw (opened_it, walked.count);
      }

  -- a fault stopped the run at a name
  pub walk_stops : {new : List Slot} (fault : Fault)
      → TookNext new (Err fault)
      → RunsOver visible_in world names (λ found. TookAll visible_in visible task found new_sources new (Err fault))
  walk_stops {new} fault (input, is_for, there, cut_off _ stop) =
      let rest = inputs_from world (progress.was_read || is_dash name) (next_slot (length sources) name) left in
      let before : made_by task walked.done ≡ walked.made
      = ap (of_inputs task true) (sym (append-nil walked.done)) ∙ walked.rest_made [] ∙ joined_nothing in (
        walked.done ++ input ∷ rest,
        record {
          are = walked.rest_are (input ∷ rest) (is_for, are_from world (progress.was_read || is_dash name) (next_slot (length sources) name) left);
          there = λ t. rw (
            there t,
            same_input progress.was_read _ name (is_dash name)
                sources walked.laid_same walked.standard,
          ) (walked.rest_there t);
        },
        stopped_at fault (record {
          before = walked.done;
          input = input;
          after = rest;
          are = refl;
          done = all_done _ _ _ (progress.was_read || is_dash name) _ _ done_on;
          untouched = rest_untouched world (progress.was_read || is_dash name) (next_slot (length sources) name) left
              new_sources unread_on leaves.within;
          error = walked.error;
          says = said_on;
          stop = record {
            step = stop.step;
            is = rw before (rw (room, walked.first) at stop.is);
            reached = stop.reached;
            stops = stop.stops;
            between = stop.between;
            swept = swept_from (task.work input.shown).clears stop.reached new
                (λ clears. (taken_alone slots (walked.alone input.shown) clears).1) stop.swept;
          };
        }),
      )

-- the words that a loop has left are the first of them and the rest
pub walked_at : {visible_in : Bool} (visible : Bool) {task : Task} {world : World} {names : List (List ℕ)}
    (none : Bor (List ℕ)) (left : List (Bor (List ℕ))) {progress : RunProgress} {laid : ℕ → List ℕ → Option Content}
    {sources : List Source} {slots : List Slot} → 1 ≤ length left
    → Walked visible_in visible task world names (map (λ word. word.now) left) progress laid sources slots
    → Walked visible_in visible task world names
    ((get_or left 0 none).now ∷ map (λ word. word.now) (take (length left - 1) (drop 1 left))) progress laid sources
    slots
walked_at visible none left some walked = grind (arith, common_steps)

-- a run that touched no input
pub none_touched : {visible_in : Bool} {world : World} {sources : List Source} {names : List (List ℕ)}
    → sources ≡ source_of world.standard ∷ [] → RunsOver visible_in world names (λ found. AreUntouched found sources)
none_touched {world = world} {sources} {names} fresh = (
  inputs_at world names,
  record { are = are_from world false 1 names; there = λ t. refl },
  rest_untouched world false 1 names sources (λ _. ap (λ those. source_at those 0) fresh) (omega (arith, ap length fresh)),
)

pub fresh_is : {sources : List Source} → IsFresh sources → sources ≡ source_of (source_at sources 0).left ∷ []
fresh_is fresh = rw fresh.only refl

pub fresh_counts : {sources : List Source} (names : List (List ℕ)) → IsFresh sources
    → length sources ≤ count_after 1 names
fresh_counts names fresh = let more : 1 ≤ count_after 1 names = count_more 1 names in omega (arith, ap length fresh.only)

-- what a loop over names has left of standard input
pub record Untouched (names left : List (List ℕ)) (start now : List Source) : Type 0 where
  pub none_left : has_dash names ≡ false → has_dash left ≡ false
  pub same : has_dash names ≡ false → source_at now 0 ≡ source_at start 0

pub untouched_on : {names : List (List ℕ)} (none : Bor (List ℕ)) (left : List (Bor (List ℕ))) {start now : List Source}
    (new : List Source) → 1 ≤ length left → Untouched names (map (λ word. word.now) left) start now
    → (is_dash (get_or left 0 none).now ≡ false → source_at new 0 ≡ source_at now 0)
    → Untouched names (map (λ word. word.now) (take (length left - 1) (drop 1 left))) start new
untouched_on none left new some untouched keeps = grind (arith, common_steps)
