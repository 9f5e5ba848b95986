-- Lemmas: what a run leaves if a fault stops it is a beginning of what it leaves if no fault does.
use Rattle.std.{
  proofs.lemmas.{Grind.common_steps, Bool.{cases_eq, false≢true, cond_both}},
  proofs.Common.{◌≡◌, ℕ, ◌+◌, ◌≤◌, ◌<◌, zero, suc, Bool, true, false, List, [], ◌∷◌, ◌++◌, length, Option, inl},
  proofs.Common.{inr, ◌⊎◌, refl, sym, ◌∙◌, arith, rules, None, append_assoc, not, ◌&&◌},
  proofs.Math.Bool.{and_assoc, or-true},
}
use Rattle.ports_core.specs.{
  declared.{reason.Reason.Reason, fault.Fault.{Fault, TheVariants.{Write, Open}}, calling.Speaker.Speaker},
  Slot.{Slot, breaks, slot_at, unopened},
  Source.{Content, Source, unshown},
  Streams.streams_with,
  Inputs.largest_piece,
  Name.name_count,
}
use Rattle.engine_core.specs.{
  Written.{Begins, FilesBegin, Marks, OutputsAt, Written, only_out},
  Swept.Swept,
  Work.{IsLawful, Needs, Work},
}
use Rattle.engine_core.proofs.{
  WrittenLemmas.{nothing_begins, nothing_begins_part, part_begins_itself, part_trans, take_begins_after},
}
use Rattle.ports_core.proofs.SlotLemmas.{slot_at-changed, slot_at-elsewhere}
use Rattle.seg_core.specs.{declared.cut.{Cut.{Cut, TheVariants.{Parts, Round}}, Way.Way}, Cut.IsWay}
use Rattle.split_core.{
  specs.ChunkWork.{HasAllNames, way_work},
  specs.laws.{ChunkWorkLaws.{chunk_lawful, chunks_lawful, turn_lawful}, WorkLaws.{parts_lawful, round_lawful}},
  specs.Split.{Filing, are_named, split_work, whole_by, HasNames},
  specs.Round.round_plan,
  proofs.{RoundLemmas.not_short, AgreedLemmas.plan_by},
}
use Rattle.words_core.specs.{SplitWords.{SplitAsked, AreNamed, CanSplit, IsInLimits, first_number}}
use Rattle.tools_core.specs.{Tasks.naming_of, About.{TellsText, no_text, text_cut, text_whole}}
use Rattle.promises_core.{
  specs.Promises.BeginsAs,
  proofs.LeftLemmas.{Kept, slots_at, swept_kept, outputs_of, slots_of, text_made},
}
use Rattle.run_core.specs.{
  Feeding.{HasAll, IsCall, Step, enough, is_enough, fed_part, to_end, opens, feeds, closes},
  Input.Input,
  RunEnds.{EndsAs, RunStep, as_defined, calling as call_step, heading, no_room, stopped, unheaded},
  RunEnds.unopened as unopened_step,
  Task.{Task, after_part, are_missing, header_text, is_missing, made_by, of_content, of_input, of_inputs},
}
use Rattle.run_core.proofs.{InputLemmas.told_stop, StopLemmas.{after_assoc, begins_after, nothing_after}}
use Rattle.seg_core.specs.declared.cut.Way.TheVariants as way

-- an output without a byte begins any output
pub empty_begins : {output other : Slot} → output.written ≡ [] → BeginsAs output other
empty_begins {other} none = record { bytes = rw none (nothing_begins other.written); named = inr none }

-- outputs to which nothing was written begin any outputs
pub bare_begins : (error : Slot) {other : Slot} (place : ℕ) → (place ≡ 1 → ⊥)
    → BeginsAs (slot_at (streams_with error) place) other
bare_begins error zero differs = empty_begins refl
bare_begins error (suc zero) differs = absurd (differs refl)
bare_begins error (suc (suc place)) differs = empty_begins refl

-- If an output keeps its name and bytes, it begins what it began, and what began it still begins it.

kept_begins : {sweeps : Bool} {place : ℕ} {old new other : Slot} → Kept sweeps place old new → BeginsAs old other
    → BeginsAs new other
kept_begins kept begins = grind (arith, common_steps)

pub begins_kept : {sweeps : Bool} {place : ℕ} {output whole other : Slot} → Kept sweeps place whole other
    → BeginsAs output whole → BeginsAs output other
begins_kept kept begins = grind (arith, common_steps)

-- What a fault leaves in the slots by itself: it breaks a slot, or adds a slot that couldn't be opened.

abbrev pub IsMarked : Fault → ℕ → List Slot → Slot → Type 0
IsMarked (Write slot) place before new = (place ≡ slot) × (place < length before)
    × ((why : Reason) × (new ≡ breaks why (slot_at before place)))
IsMarked (Open slot) place before new = (place ≡ slot) × ((kept : List ℕ) × (why : Reason) × (new ≡ unopened why kept))
IsMarked fault place before new = ⊥

one_more_at : (one : Slot) (place : ℕ) (slots : List Slot)
    → (slot_at (slots ++ one ∷ []) place ≡ slot_at slots place)
    ⊎ ((place ≡ length slots) × (slot_at (slots ++ one ∷ []) place ≡ one))
one_more_at one zero [] = inr (refl, refl)
one_more_at one (suc place) (slot ∷ slots) = grind (arith, common_steps, (one_more_at one place slots))
one_more_at one place slots = inl refl

pub marked_at : (IsDue : List ℕ → Type 0) (fault : Fault) (before after : List Slot) (place : ℕ)
    → Marks IsDue fault before after → (slot_at after place ≡ slot_at before place)
    ⊎ IsMarked fault place before (slot_at after place)
marked_at IsDue (Write slot) before after place (within, (why, is)) = elim (cases_eq place slot) [
  | inl here ↦ let there : place < length before = omega (arith, here, within) in
      inr (here, there, (why, rw (is, ← here) (slot_at-changed place (breaks why) before there)))
  | inr differs ↦ inl (rw is (slot_at-elsewhere slot place (breaks why) before differs))
]
marked_at IsDue (Open slot) before after place (number, (name, kept, why, due, is, slots)) =
    grind (arith, common_steps, one_more_at)
marked_at IsDue fault before after place marks = inl (rw marks)

mark_begins : (fault : Fault) (place : ℕ) (before : List Slot) {new other : Slot} → IsMarked fault place before new
    → BeginsAs (slot_at before place) other → BeginsAs new other
mark_begins (Write slot) place before marked begins = grind (arith, common_steps)
mark_begins (Open slot) place before (here, (kept, why, is)) begins = empty_begins (rw is)
mark_begins fault place before marked begins = absurd marked

-- The outputs of a part that begins another part.

files_at : (files others : List Slot) → FilesBegin files others → (place : ℕ)
    → BeginsAs (slot_at files place) (slot_at others place)
files_at [] others begins place = empty_begins refl
files_at (file ∷ files) [] begins place = absurd begins
files_at (file ∷ files) (other ∷ others) begins zero = grind (arith, common_steps)
files_at (file ∷ files) (other ∷ others) begins (suc place) = files_at files others begins.5 place

part_at : {low high : Written} (error : Slot) (place : ℕ) → Begins low high → (place ≡ 1 → ⊥)
    → BeginsAs (slot_at (outputs_of low error) place) (slot_at (slots_of high) place)
part_at error zero begins differs = grind (arith, common_steps)
part_at error (suc zero) begins differs = absurd (differs refl)
part_at {low} {high} error (suc (suc place)) begins differs = files_at low.files high.files begins.files place

-- outputs that have a part, and of which files were removed or stayed, begin each part that this part begins
left_begins : (clears : Bool) {low high : Written} {error : Slot} {reached : List Slot} (new : List Slot) {place : ℕ}
    → Begins low high → (place ≡ 1 → ⊥) → OutputsAt true (streams_with error) low reached → Swept clears 2 reached new
    → BeginsAs (slot_at new place) (slot_at (slots_of high) place)
left_begins clears {error} {reached} new {place} begins differs at swept = kept_begins
    (swept_kept clears reached new swept place) (rw (slots_at at) (part_at error place begins differs))

-- One input, which ends after these bytes.

abbrev pub ending : List ℕ → Content
ending bytes = unshown bytes

-- what is made of the input, after its header
abbrev pub part_of : Task → List ℕ → List ℕ → Written
part_of task name bytes = after_part (only_out (header_text task.with_header true name)) ((task.work None).whole bytes)

-- What a step has written is a beginning of what is made of its input.

pub record IsGrowing (work : Work) (content : Content) : Type 0 where
  pub settled : (x rest : List ℕ) → content.bytes ≡ x ++ rest → Begins (work.settled x) (fed_part work content)
  pub closed : (x : List ℕ) → HasAll work content x → Begins (work.whole x) (fed_part work content)

call_begins : {work : Work} {opening : Needs} {content : Content} {call : Step} → IsGrowing work content
    → IsCall work opening largest_piece content call → Begins call.high (fed_part work content)
call_begins {content = content} grows opens = grows.settled [] content.bytes refl
call_begins grows (feeds x piece rest is few going) = search rules
call_begins grows (closes x has needed) = grows.closed x has

-- a part begins the part that has another part after it
begins_more : (first next : Written) → Begins first (after_part first next)
begins_more first next = rw nothing_after at (begins_after first (nothing_begins_part next))

step_begins : {task : Task} (is_first : Bool) (input : Input) {so_far : Written} {sources : List Source} {step : Step}
    → ((content : Content) → IsGrowing (task.work input.shown) content)
    → RunStep true task largest_piece so_far is_first input sources step
    → Begins step.high (after_part so_far (of_input task is_first input).part)
step_begins is_first input {so_far} grows (unopened_step place at past) = begins_more so_far _
step_begins is_first input {so_far} grows (unheaded content there headed leaves) = begins_more so_far _
step_begins is_first input {so_far} grows (heading content there headed leaves) =
    rw there (begins_after so_far (begins_more _ _))
step_begins {task} is_first input {so_far} grows (call_step content call there is leaves) =
    let header = only_out (header_text task.with_header is_first input.name) in
    rw (there, after_assoc so_far header call.high)
    (begins_after so_far (begins_after header (call_begins (grows content) is)))

-- What is made of inputs is what is made of the first inputs, of one input, and of the inputs after it.

made_after : (task : Task) (is_first : Bool) (before : List Input) (input : Input) (after : List Input)
    → (of_inputs task is_first (before ++ input ∷ after)).part
    ≡ after_part (of_inputs task is_first before).part
    (after_part
    (of_content task (task.work input.shown) (is_first && are_missing before) input.name input.content).part
    (of_inputs task (is_first && are_missing before && is_missing input.content) after).part)
made_after task is_first [] input after = grind (arith, common_steps)
made_after task is_first (first ∷ before) input after =
    simp (made_after task (is_first && is_missing first.content) before input after, append_assoc, and_assoc)

-- A run over any inputs.

pub begins_whole : {task : Task} {inputs : List Input} {sources : List Source}
    {new : List Slot} {status : ℕ} {place : ℕ}
    → ((shown : Option (List ℕ)) (content : Content) → IsGrowing (task.work shown) content) → (place ≡ 1 → ⊥)
    → EndsAs true true task inputs sources new status
    → BeginsAs (slot_at new place) (slot_at (slots_of (made_by task inputs).part) place)
begins_whole {new} grows differs (as_defined all is) = left_begins _ new (part_begins_itself _) differs all.outputs all.swept
begins_whole {task} {inputs} {new = new} {place = place} grows differs (stopped fault mid at tells _) =
    let input = at.input in
    let so_far = (made_by task at.before).part in
    let here = (of_input task (are_missing at.before) input).part in
    let rest = (of_inputs task (are_missing at.before && is_missing input.content) at.after).part in
    let begins : Begins at.stop.step.high (made_by task inputs).part
    = rw (at.are, made_after task true at.before input at.after, sym (after_assoc so_far here rest)) (part_trans _ (after_part so_far here) _
    (step_begins (are_missing at.before) input (grows input.shown) at.stop.is) (begins_more _ rest)) in
    let between = at.stop.between in
    let reached = at.stop.reached in
    let begun = left_begins false between.reached (part_trans between.part _ _ between.below begins) differs between.outputs refl in
    rw ((told_stop at tells).others place differs)
    (kept_begins (swept_kept _ reached mid at.stop.swept place) (elim (marked_at _ fault between.reached reached place between.marks) [
      | inl same ↦ rw same begun
      | inr marked ↦ grind (arith, common_steps, mark_begins)
    ]))
begins_whole {place} grows differs (no_room error says slots untouched count status_is) = rw slots (bare_begins error place differs)

-- Lawful works only grow.

closed_made : {work : Work} (content : Content) → IsLawful work → (x : List ℕ) → HasAll work content x
    → Begins (work.whole x) (fed_part work content)
closed_made {work} content law x (to_end ends is) = rw (ends, is) (part_begins_itself (work.whole x))
closed_made {work} content law x (enough rest is complete) =
    let here = law.stays x [] complete in
    let there = law.stays x rest complete in
    let same : work.whole x ≡ work.whole (x ++ rest) = grind (arith, common_steps) in
    rw (is, there.still, or-true (not content.breaks_off), same) (part_begins_itself (work.whole (x ++ rest)))

settled_made : (work : Work) (content : Content) → ((x y : List ℕ) → Begins (work.settled x) (work.settled (x ++ y)))
    → ((x : List ℕ) → Begins (work.settled x) (work.whole x)) → (x rest : List ℕ) → content.bytes ≡ x ++ rest
    → Begins (work.settled x) (fed_part work content)
settled_made work content grows ends x rest is = cond_both (is_enough work content) (work.whole content.bytes)
    (work.settled content.bytes) (Begins (work.settled x))
    (λ enough. rw is (part_trans (work.settled x) (work.settled (x ++ rest)) (work.whole (x ++ rest)) (grows x rest) (ends (x ++ rest))))
    (λ short. rw is (grows x rest))

pub lawful_grows : {work : Work} → IsLawful work → (content : Content) → IsGrowing work content
lawful_grows {work} law content = record { settled = settled_made work content law.grows law.ends; closed = closed_made content law }

-- All files have names, if their number is known.

named_up_to : (asked : SplitAsked) (count : ℕ) → first_number asked.from + count ≤ name_count asked.alphabet asked.width
    → are_named (naming_of asked) count ≡ true
named_up_to asked zero all = refl
named_up_to asked (suc last) all = grind (arith, common_steps)

pub all_have_names : (asked : SplitAsked) → AreNamed asked.way asked.alphabet asked.from asked.width
    → HasAllNames asked.way (naming_of asked)
all_have_names asked named = by asked.way named where
  by : (way : Way) → AreNamed way asked.alphabet asked.from asked.width → HasAllNames way (naming_of asked)
  by (way.Cut (Parts limit)) all = tt
  by (way.Cut (Round n delim)) all = named_up_to asked n all
  by (way.Chunks chunks) all = named_up_to asked chunks.count all
  by (way.Chunk place chunks) all = tt
  by (way.Turn place n delim) all = tt

-- what can be asked of `split` is a way to split
pub is_way : (asked : SplitAsked) → CanSplit asked → IsWay asked.way
is_way asked can = by asked.way can.way where
  by : (way : Way) → IsInLimits way → IsWay way
  by (way.Cut (Parts limit)) is = is
  by (way.Cut (Round n delim)) is = is.0
  by (way.Chunks chunks) is = is.0
  by (way.Chunk place chunks) is = is.1
  by (way.Turn place n delim) is = is.1

dealt_closed : (delim n : ℕ) (elide : Bool) (filing : Filing) (content : Content) → are_named filing.names n ≡ true
    → (x : List ℕ) → HasAll (split_work (round_plan delim n elide filing)) content x
    → Begins (whole_by (round_plan delim n elide filing) x)
    (fed_part (split_work (round_plan delim n elide filing)) content)
dealt_closed delim n elide filing content all x (to_end ends is) = rw (ends, is) (part_begins_itself _)
dealt_closed delim n elide filing content all x (enough rest is complete) = absurd (false≢true (not_short delim filing elide n x all ∙ complete))

split_grows : (cut : Cut) (elide : Bool) (filing : Filing) → HasNames cut filing.names → (content : Content)
    → IsGrowing (split_work (plan_by cut elide filing)) content
split_grows (Parts limit) elide filing all = lawful_grows (parts_lawful limit filing)
split_grows (Round n delim) elide filing all = λ content.
    let law = round_lawful delim n elide filing in record {
      settled = settled_made (split_work (round_plan delim n elide filing)) content law.grows law.ends;
      closed =
          dealt_closed delim n elide filing content all;
    }

pub way_grows : (way : Way) (elide : Bool) (filing : Filing) (said : Option ℕ) → IsWay way
    → HasAllNames way filing.names
    → (content : Content) → IsGrowing (way_work way elide filing said) content
way_grows (way.Cut cut) elide filing said is all = split_grows cut elide filing all
way_grows (way.Chunks chunks) elide filing said is all =
    lawful_grows (chunks_lawful (record { chunks = chunks; elide = elide; filing = filing }) said is)
way_grows (way.Chunk place chunks) elide filing said is all = lawful_grows (chunk_lawful place chunks said is)
way_grows (way.Turn place n delim) elide filing said is all = lawful_grows (turn_lawful place n delim)

-- Standard output has a beginning of a text about a tool.

pub text_begins : {which : Speaker} {text : List ℕ} {new : List Slot} {status : ℕ}
    (place : ℕ) → (place ≡ 1 → ⊥) → TellsText true which text new status
    → BeginsAs (slot_at new place) (slot_at (slots_of (text_made text).part) place)
text_begins (suc zero) differs tells = absurd (differs refl)
text_begins place differs (no_text error says slots is) = rw slots (bare_begins error place differs)
text_begins {text} zero differs (text_whole slots is) = grind (arith, common_steps)
text_begins {text} zero differs (text_cut n short why error says slots is) = rw slots
    (record { bytes = take_begins_after n [] text; named = inl refl })
text_begins (suc (suc place)) differs (text_whole slots is) = rw slots (empty_begins refl)
text_begins (suc (suc place)) differs (text_cut n short why error says slots is) = rw slots (empty_begins refl)
