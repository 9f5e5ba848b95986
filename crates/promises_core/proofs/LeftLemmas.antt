-- Lemmas on the outcome of any inputs: which messages it has, and that its files are live. Also on what a run leaves if
-- no fault stopped it: exactly what its inputs make, except files that were to be removed.
use Rattle.std.proofs.{
  lemmas.{
    Grind.common_steps,
    Bool.{and_parts, not-false, or_parts, cond_both},
    List.Elements.{All-append, All-cons, All-head, All-map, All-nil, All-tail},
  },
  Common.{◌≡◌, ℕ, ◌+◌, ◌<◌, zero, suc, Bool, true, false, ◌&&◌, cond, List, [], ◌∷◌, ◌++◌, length, map, Option, Some},
  Common.{None, inl, inr, ◌⊎◌, refl, sym, ◌∙◌, ap, arith, append_assoc, append-nil, All, rules, ◌≤◌, ◌^◌, is_none},
  Common.{Ok, codes},
}
use Rattle.ports_core.specs.{
  Slot.{Slot, adds, has_file, slot_at, closes, opened, removes, visible_slot},
  Source.{Content, Source, no_source},
  Streams.{standard_error, standard_output, streams_with},
  Inputs.largest_piece,
  Text.{Message, is_quiet, message_of, status_after},
  declared.calling.{Calling.{Calling, TheVariants.Cutters}, Speaker.Speaker},
  declared.reason.Reason.Reason,
  declared.fault.Fault.{Fault, TheVariants.{Open as CannotOpen, Read, Write}},
  declared.verdict.Verdict.Verdict,
  declared.slot.{State.{State, TheVariants.{Open, Closed}}, Mode.Mode},
  Message.SaysAll,
}
use Rattle.engine_core.specs.{
  Draft.{Draft, Manner, shares_of},
  Written.{FilesBegin, Written, nothing, only_out, OutputsAt},
  Work.{Judges, Needs, Work},
  Swept.{Cleared, Swept},
}
use Rattle.engine_core.proofs.WrittenLemmas.{kept_there}
use Rattle.seg_core.specs.declared.{cut.{Cut.{Cut, TheVariants.{Parts, Round}}, Way.Way}, unit.Unit.Unit as Counted}
use Rattle.split_core.specs.{
  ChunkWork.{draft_by, way_work},
  Chunks.decided,
  Split.{manner_of as manner_by, Filing, Share, dealt_files, settled_shares, share},
}
use Rattle.ends_core.specs.Shown.{head_in, tail_in}
use Rattle.promises_core.{
  proofs.SameLemmas.{KnowsNoMore, all_made_alike, head_knows, shows_none, split_knows, tail_knows},
  specs.Promises.{AllAlike, AreAlike, GivesBytes, are_same, give_same, SaysLines, Completes, FindAlike, IsCopied},
  specs.Promises.{Gives, at_first, hold_same, in_full, IsMet, Tells, IsFound, DoesAll, IsGone, LeaveAlike, Ran},
  specs.Promises.{TellsMet, message_by, broken_off, failing, judged, missing, removes_files},
}
use Rattle.tools_core.{
  specs.About.{TellsText, no_text, text_cut, text_whole},
  specs.Outcome.{DoesAsked, RefusesOperands, tee_run},
  specs.Tasks.{filing_of, names_of, speaker_of},
}
use Rattle.operand_core.{specs.{Style.Style}, proofs.ReadingLemmas.asks_once}
use Rattle.csplit_core.specs.{Output.{file_in, shares_in, state_in}, Section.{Section}}
use Rattle.run_core.specs.{
  Feeding.{IsCall, Step, closes as ends_call, feeds, is_enough, opens},
  Input.{Input, inputs_at, standard_input},
  RunEnds.{AllDone, RunStep, calling as call_step, heading, unheaded, unopened},
  Task.{Outcome, Task, is_missing, joined, of_content, of_input, of_inputs, made_by, status_of},
}
use Rattle.run_core.proofs.{InputLemmas.{said_of}, StopLemmas.{beside_error, swept_error}}
use Rattle.tee_core.{
  specs.Run.{IsRead, tee_called, said_of_input},
  proofs.{
    CopyLemmas.{stands_of, stands_streams},
    EndLemmas.{all_sound, end_streams, old_sound, sound_goes_on, sound_says, sound_status},
  },
}
use Rattle.words_core.specs.{
  TeeWords.TeeAsked,
  Words.settings_of,
  declared.settings.Settings.{Settings, TheVariants.{Head, Tail, Split, Csplit, Tee, About}},
  Help.text_about,
}
use Rattle.ports_core.proofs.MessageLemmas.{each_all, messages_in}
use Rattle.engine_core.specs.Draft as made
use Rattle.ports_core.specs.declared.fault.Fault.TheVariants as fault_is
use Rattle.seg_core.specs.declared.cut.Way.TheVariants as way
use Rattle.engine_core.specs.Swept as swept_so
use Rattle.ports_core.specs.declared.slot.State.TheVariants as state
use Rattle.tee_core.specs.Run as tee
use Rattle.tools_core.specs.{Outcome.IsTask, Run.{Run, all_visible}}

-- One line among others.

abbrev pub HasLine : Message → List Message → Type 0
HasLine line lines = (before : List Message) × (after : List Message) × (lines ≡ before ++ line ∷ after)

pub has_after : {line : Message} (front : List Message) {back : List Message} → HasLine line back
    → HasLine line (front ++ back)
has_after front (before, after, is) = (front ++ before, after, rw (is, append_assoc))

pub has_before : {line : Message} {front : List Message} (back : List Message) → HasLine line front
    → HasLine line (front ++ back)
has_before back (before, after, is) = (before, after ++ back, rw (is, append_assoc))

-- the run wrote this line, among others
abbrev pub SaysLine : Run → Settings → Message → Type 0
SaysLine run asked line = (before : List Message) × (after : List Message) × SaysLines run asked (before ++ line ∷ after)

pub says_line : {run : Run} {asked : Settings} {line : Message} {lines : List Message} → HasLine line lines
    → SaysLines run asked lines → SaysLine run asked line
says_line (before, after, is) says = search rules

pub one_line : (Line : Message → Type 0) (line : Message) → Line line → All Line (line ∷ [])
one_line Line line is = All-cons Line line [] is (All-nil Line)

-- the only line reports this fault
pub tells_one : (run : Run) (asked : Settings) (fault : Fault) (name : List ℕ) → IsMet run asked fault name
    → SaysAll true (speaker_of run.calling asked) (message_by run fault name ∷ []) standard_error
    (slot_at run.outputs 1)
    → Tells run asked fault name
tells_one run asked fault name met says = ([], [], grind (arith, common_steps, one_line))

-- Files that are open or closed, and not broken.

abbrev pub IsLive : Slot → Type 0
IsLive slot = (slot.is_broken ≡ false) × (has_file slot.state ≡ true)

abbrev pub AreLive : List Slot → Type 0
AreLive files = All IsLive files

no_live : AreLive []
no_live = grind (arith, common_steps)

live_both : (front back : List Slot) → AreLive front → AreLive back → AreLive (front ++ back)
live_both front back one other = grind (arith, common_steps)

-- The files of a part that begins a part with live files are live.

pub live_begin : (files wholes : List Slot) → FilesBegin files wholes → AreLive wholes → AreLive files
live_begin [] wholes begins live = no_live
live_begin (file ∷ files) [] begins live = absurd begins
live_begin (file ∷ files) (whole ∷ wholes) begins live =
    let first = All-head IsLive whole wholes live in
    All-cons IsLive file files (begins.2 ∙ first.0, kept_there (λ (file : Slot). file.state) begins.3 ∙ first.1)
    (live_begin files wholes begins.5 (All-tail IsLive whole wholes live))

-- What is true of the file of each share is true of all files.

pub each_made : (P : Slot → Type 0) (manner : Manner) (place : ℕ) (shares : List Share)
    → All (λ one. (place : ℕ) → P (made.file_at manner place one)) shares → All P (made.files_from manner place shares)
each_made P manner place [] all = All-nil P
each_made P manner place (one ∷ shares) all = cond_both (manner.has_name place) _ _ (All P)
    (λ has. All-cons P _ _ (all 0 one (omega arith) place)
    (each_made P manner (place + 1) shares (λ k one within. all (suc k) one (omega (arith, within)))))
    (λ lacks. All-nil P)

-- The files of a work are live, whatever came in.

pub record IsLiving (work : Work) : Type 0 where
  pub settled : (x : List ℕ) → AreLive (work.settled x).files
  pub whole : (x : List ℕ) → AreLive (work.whole x).files

-- the files of the work are live, and `clears` says whether they are removed after a fault
abbrev pub LivesAs : Work → Bool → Type 0
LivesAs work clears = IsLiving work × (work.clears ≡ clears)

-- the works are such, whatever the input shows
abbrev pub AreLiving : (Option (List ℕ) → Work) → Bool → Type 0
AreLiving work clears = (shown : Option (List ℕ)) → LivesAs (work shown) clears

head_makes : (delim : ℕ) (unit : Counted) (but_last : Bool) (n : ℕ) (shown : Option (List ℕ))
    → LivesAs (head_in delim unit but_last n shown) false
head_makes delim unit true n (Some text) = (grind (arith, common_steps), refl)
head_makes delim unit but_last n shown = (grind (arith, common_steps), refl)

tail_makes : (delim : ℕ) (unit : Counted) (from_nth : Bool) (n : ℕ) (shown : Option (List ℕ))
    → LivesAs (tail_in delim unit from_nth n shown) false
tail_makes delim unit false n (Some text) = (grind (arith, common_steps), refl)
tail_makes delim unit from_nth n shown = (grind (arith, common_steps), refl)

abbrev IsThere : Share → Type 0
IsThere share = has_file share.state ≡ true

shares_there : (state : State) → has_file state ≡ true → (texts : List (List ℕ)) → All IsThere (map (share state) texts)
shares_there state has texts = All-map IsThere (share state) texts (λ k text within. has)

settled_there : (cut : Cut) (elide : Bool) (x : List ℕ) → All IsThere (settled_shares cut elide x)
settled_there (Parts limit) elide x = grind (arith, common_steps, All-append, shares_there)
settled_there (Round n delim) elide x = shares_there Open refl (dealt_files delim elide n x)

files_there : (manner : Manner) (shares : List Share) → All IsThere shares → AreLive (made.files_from manner 0 shares)
files_there manner shares all =
    each_made IsLive manner 0 shares (λ k one within place. (refl, all k one within))

drafts_there : (draft : Draft) → All IsThere (shares_of draft)
drafts_there draft = grind (arith, common_steps, All-append, shares_there)

way_lives : (way : Way) (elide : Bool) (filing : Filing) (said : Option ℕ)
    → LivesAs (way_work way elide filing said) false
way_lives (way.Cut cut) elide filing said = grind (arith, common_steps, files_there, settled_there, shares_there)
way_lives (way.Chunks chunks) elide filing said = (
  record {
    settled = λ x. files_there (manner_by filing) _ (drafts_there (draft_by elide (decided chunks 1 said x)));
    whole = grind (arith, common_steps, files_there, shares_there);
  },
  refl,
)
way_lives way elide filing said = (grind (arith, common_steps), refl)

section_has : (is_closed : Bool) → has_file (cond is_closed Closed Open) ≡ true
section_has true = refl
section_has false = refl

pub each_section : (P : State → Type 0) (style : Style) (sections : List Section)
    → All (λ section. P (state_in section)) sections → All (λ (one : Share). P one.state) (shares_in style sections)
each_section P style [] all = All-nil (λ (one : Share). P one.state)
each_section P style (section ∷ sections) all =
    let Is = λ (one : Share). P one.state in
    All-append Is (map (share (state_in section)) (file_in style section)) (shares_in style sections)
    (All-map Is (share (state_in section)) (file_in style section) (λ k other within. all 0 section (omega arith)))
    (each_section P style sections (λ k one within. all (suc k) one (omega (arith, within))))

sections_there : (style : Style) (sections : List Section) → All IsThere (shares_in style sections)
sections_there style sections = each_section (λ state. has_file state ≡ true) style sections (λ k other within. section_has _)

-- What a run over inputs makes of them.

-- `Line` is true of one of these lines
abbrev pub HasSome : (Message → Type 0) → List Message → Type 0
HasSome Line lines = (line : Message) × Line line × HasLine line lines

-- `Line` is true of each message of an outcome, and there is a message exactly if a fault was met. Files are removed
-- only after a fault, and only by a tool that removes them. The files are live.
pub record Fits (Line : Message → Type 0) (clears : Bool) (made : Outcome) : Type 0 where
  pub are : All Line made.messages
  pub tells : made.failed ≡ true → HasSome Line made.messages
  pub quiet : made.failed ≡ false → made.messages ≡ []
  pub sweeps : made.sweeps ≡ true → (clears ≡ true) × (made.failed ≡ true)
  pub live : AreLive made.part.files

fits_well : {Line : Message → Type 0} {clears : Bool} (part : Written) (sweeps : Bool) → sweeps ≡ false
    → AreLive part.files → Fits Line clears (record { part = part; messages = []; failed = false; sweeps = sweeps })
fits_well {Line} part sweeps none live = grind (arith, common_steps)

fits_fault : {Line : Message → Type 0} {clears : Bool} {line : Message} (part : Written) (sweeps : Bool) → Line line
    → (sweeps ≡ true → clears ≡ true) → AreLive part.files
    → Fits Line clears (record { part = part; messages = line ∷ []; failed = true; sweeps = sweeps })
fits_fault {Line} {line} part sweeps tells clears live =
    record {
      are = one_line Line line tells;
      tells = λ is. (line, tells, ([], [], refl));
      quiet = λ is. absurd (cc);
      sweeps = λ is. (clears is, refl);
      live = live;
    }

fits_joined : {Line : Message → Type 0} {clears : Bool} (first next : Outcome) → Fits Line clears first
    → Fits Line clears next → Fits Line clears (joined first next)
fits_joined {Line} first next one other = grind (arith, common_steps, has_before, has_after, live_both)

-- `Line` is true of each line that reports what is wrong with an input
pub record TellsInput (Line : Message → Type 0) (task : Task) (work : Work) (name : List ℕ) (there : Option Content)
    : Type 0 where
  pub missing : there ≡ None → Line (message_of (CannotOpen 0) name)
  pub broken_off : (content : Content) → there ≡ Some content → is_enough work content ≡ false
      → Line (message_of (Read 0) name)
  pub judged : (content : Content) (verdict : Verdict) → there ≡ Some content → is_enough work content ≡ true
      → Judges work content.bytes verdict → Line (message_of (fault_is.Verdict verdict) (task.subject verdict name))

content_fits : {Line : Message → Type 0} (task : Task) (work : Work) (is_first : Bool) (name : List ℕ)
    (there : Option Content) → TellsInput Line task work name there → IsLiving work
    → Fits Line work.clears (of_content task work is_first name there)
content_fits task work is_first name None tells living =
    fits_fault nothing false (tells.missing refl) (λ is. absurd (cc)) no_live
content_fits {Line} task work is_first name (Some content) tells living = by (is_enough work content) (work.verdict content.bytes) refl refl where
  by : (enough : Bool) (verdict : Option Verdict) → is_enough work content ≡ enough
      → work.verdict content.bytes ≡ verdict → Fits Line work.clears (of_content task work is_first name (Some content))
  by true None enough none = rw (enough, none) (fits_well _ _ (grind (arith, common_steps)) (living.whole content.bytes))
  by true (Some verdict) enough is = rw (enough, is)
      (fits_fault _ _ (tells.judged content verdict refl enough is) (λ is. (and_parts work.clears true is).0) (living.whole content.bytes))
  by false verdict short is = rw short
      (fits_fault _ _ (tells.broken_off content refl short) (λ is. (and_parts work.clears true is).0) (living.settled content.bytes))

abbrev pub TellsAt : (Message → Type 0) → Task → Input → Type 0
TellsAt Line task input = TellsInput Line task (task.work input.shown) input.name input.content

abbrev pub TellsAll : (Message → Type 0) → Task → List Input → Type 0
TellsAll Line task inputs = All (TellsAt Line task) inputs

pub inputs_fit : {Line : Message → Type 0} {clears : Bool} (task : Task) (is_first : Bool) (inputs : List Input)
    → TellsAll Line task inputs → AreLiving task.work clears → Fits Line clears (of_inputs task is_first inputs)
inputs_fit task is_first [] tells living = search rules
inputs_fit {Line} task is_first (input ∷ inputs) tells living =
    let P = TellsAt Line task in
    fits_joined (of_input task is_first input) (of_inputs task (is_first && is_missing input.content) inputs)
    (rw (← (living input.shown).1)
    (content_fits task (task.work input.shown) is_first input.name input.content (All-head P input inputs tells)
    (living input.shown).0))
    (inputs_fit task (is_first && is_missing input.content) inputs (All-tail P input inputs tells) living)

-- The messages about inputs report what the run found.

pub speaker_is : (calling : Calling) (asked : Settings) (task : Task) → IsTask calling asked task
    → task.speaker ≡ speaker_of calling asked
speaker_is calling (Csplit asked) task (operands, asks, is) = rw is
speaker_is calling (Tee asked) task is = absurd is
speaker_is calling (About which topic) task is = absurd is
speaker_is calling asked task is = rw is

one_task : (calling : Calling) (asked : Settings) (one other : Task) → IsTask calling asked one
    → IsTask calling asked other → one ≡ other
one_task calling (Csplit asked) one other (operands, asks, is) (operands_too, asks_too, is_too) =
    grind (arith, common_steps, asks_once)
one_task calling (Tee asked) one other is is_too = absurd is
one_task calling (About which topic) one other is is_too = absurd is
one_task calling asked one other is is_too = is ∙ sym is_too

found_tells : {run : Run} (asked : Settings) {task : Task} (input : Input) → IsTask run.calling asked task
    → IsFound run asked input → TellsAt (TellsMet run asked) task input
found_tells {run} asked {task} input of found = record {
  missing = λ none. (CannotOpen 0, input.name, inr (missing input found none), refl);
  broken_off = λ content is short. (
    Read 0,
    input.name,
    inr (broken_off input content found is
        (not-false content.breaks_off (or_parts _ _ short).0) (λ other of_too. rw (one_task run.calling asked other task of_too of) short)),
    refl,
  );
  judged = λ content verdict is enough judges.
      (fault_is.Verdict verdict, task.subject verdict input.name, inr (judged input content task verdict found is of enough judges), refl);
}

-- the messages about these inputs, which the run found between other inputs, report what it met
pub all_tell : (run : Run) (asked : Settings) (task : Task) (done inputs after : List Input)
    → IsTask run.calling asked task → inputs_at run.world (names_of asked) ≡ done ++ (inputs ++ after)
    → TellsAll (TellsMet run asked) task inputs
all_tell run asked task done [] after of are = All-nil (TellsAt (TellsMet run asked) task)
all_tell run asked task done (input ∷ inputs) after of are =
    All-cons (TellsAt (TellsMet run asked) task) input inputs (found_tells asked input of (done, inputs ++ after, are))
    (all_tell run asked task (done ++ input ∷ []) inputs after of (are ∙ sym (append_assoc done (input ∷ []) (inputs ++ after))))

-- What each step of a run does.

call_live : {work : Work} {opening : Needs} {most : ℕ} {content : Content} {call : Step} → IsLiving work
    → IsCall work opening most content call → AreLive call.high.files
call_live living opens = living.settled []
call_live living (feeds x piece rest is few going) = search rules
call_live living (ends_call x has needed) = living.whole x

pub step_live : {visible : Bool} {task : Task} {before : Written} {is_first : Bool} {input : Input}
    {sources : List Source}
    {step : Step} → IsLiving (task.work input.shown) → AreLive before.files
    → RunStep visible task largest_piece before is_first input sources step → AreLive step.high.files
step_live living live (unopened place at past) = live
step_live living live (unheaded content there headed leaves) = live
step_live {before} living live (heading content there headed leaves) = search rules
step_live {before} living live (call_step content call there is leaves) =
    grind (arith, common_steps, live_both, live, no_live, call_live)

-- The outputs of a part, with any standard error.

abbrev pub outputs_of : Written → Slot → List Slot
outputs_of part error = adds part.out standard_output ∷ error ∷ part.files

abbrev pub slots_of : Written → List Slot
slots_of part = outputs_of part standard_error

abbrev pub IsSoundAt : List Slot → ℕ → Type 0
IsSoundAt slots place = ((slot_at slots place).is_broken ≡ false) × (place < length slots → has_file (slot_at slots place).state ≡ true)

live_at : (slots : List Slot) (place : ℕ) → All IsLive slots → IsSoundAt slots place
live_at slots place all = grind (arith, common_steps)

pub outputs_live : (part : Written) (error : Slot) (place : ℕ) → AreLive part.files → (place ≡ 1 → ⊥)
    → IsSoundAt (outputs_of part error) place
outputs_live part error zero live differs = (refl, λ within. refl)
outputs_live part error (suc zero) live differs = absurd (differs refl)
outputs_live part error (suc (suc place)) live differs =
    let one = live_at part.files place live in (one.0, λ within. one.1 (omega (arith, within)))

-- Outputs that have a part.

pub told_again : (files : List Slot) → map (visible_slot true) files ≡ files
told_again [] = refl
told_again (file ∷ files) = rw (told_again files)

pub slots_at : {part : Written} {error : Slot} {now : List Slot} → OutputsAt true (streams_with error) part now
    → now ≡ outputs_of part error
slots_at {part} at = grind (arith, common_steps, told_again)

-- What becomes of an output if files are removed, or stay.

failing_file : {place : ℕ} (which : State) → has_file which ≡ true → failing place which ≡ Write place
failing_file state.Removed has = absurd (cc)
failing_file state.Unopened has = absurd (cc)
failing_file which has = refl

abbrev pub gone : Slot → Slot
gone slot = cond (has_file slot.state) (removes slot) slot

abbrev remains : Bool → ℕ → Slot → Slot
remains true (suc (suc place)) slot = gone slot
remains sweeps place slot = slot

pub record Kept (sweeps : Bool) (place : ℕ) (old new : Slot) : Type 0 where
  pub name : new.name ≡ old.name
  pub mode : new.mode ≡ old.mode
  pub written : new.written ≡ old.written
  pub left : new.is_broken ≡ false → new ≡ remains sweeps place old
  pub still : old.is_broken ≡ true → new.is_broken ≡ true
  pub fails : (at : ℕ) → failing at new.state ≡ failing at old.state
  pub broke : old.is_broken ≡ false → new.is_broken ≡ true → (sweeps ≡ true) × (new.state ≡ state.Closed)

kept_same : (sweeps : Bool) (place : ℕ) {old new : Slot} → remains sweeps place old ≡ old → new ≡ old
    → Kept sweeps place old new
kept_same sweeps place stays same = grind (arith, common_steps)

cleared_kept : (place : ℕ) {old new : Slot} → Cleared old new → Kept true (suc (suc place)) old new
cleared_kept place {old} (swept_so.removed has) = grind (arith, common_steps, failing_file)
cleared_kept place {old} (swept_so.stuck why has) = grind (arith, common_steps, failing_file)
cleared_kept place {old} (swept_so.none lacks) = kept_same true (suc (suc place)) (rw lacks) refl

pub swept_kept : (sweeps : Bool) (old new : List Slot) → Swept sweeps 2 old new → (place : ℕ)
    → Kept sweeps place (slot_at old place) (slot_at new place)
swept_kept false old new swept place = kept_same false place refl (rw swept)
swept_kept true old new swept (suc (suc place)) = cleared_kept place (swept.cleared (suc (suc place)) (omega arith))
swept_kept true old new swept zero = kept_same true 0 refl (swept.before 0 (omega arith))
swept_kept true old new swept (suc zero) = kept_same true 1 refl (swept.before 1 (omega arith))

cleared_gone : {old output : Slot} → Cleared old output → IsGone output
cleared_gone (swept_so.removed has) = inl refl
cleared_gone (swept_so.stuck why has) = inr refl
cleared_gone (swept_so.none lacks) = inl lacks

pub swept_gone : (sweeps : Bool) (old new : List Slot) → sweeps ≡ true → Swept sweeps 2 old new → (place : ℕ)
    → 2 ≤ place → IsGone (slot_at new place)
swept_gone true old new is swept place past = cleared_gone (swept.cleared place past)
swept_gone false old new is swept place past = absurd (cc)

swept_count : (sweeps : Bool) (old new : List Slot) → Swept sweeps 2 old new → length new ≡ length old
swept_count false old new swept = ap length swept
swept_count true old new swept = swept.size

-- What a run leaves, by its outcome.

pub record IsLeft (which : Speaker) (made : Outcome) (new : List Slot) (status : ℕ) : Type 0 where
  pub error : Slot
  pub says : SaysAll true which made.messages standard_error error
  pub swept : Swept made.sweeps 2 (outputs_of made.part error) new
  pub is : status ≡ status_of made

pub left_at : {which : Speaker} {made : Outcome} {new : List Slot} {status : ℕ} → IsLeft which made new status
    → (place : ℕ) → (place ≡ 1 → ⊥) → Kept made.sweeps place (slot_at (slots_of made.part) place) (slot_at new place)
left_at {made} {new} left place differs =
    rw (beside_error (adds made.part.out standard_output) left.error standard_error _ place differs) at
    (swept_kept made.sweeps _ new left.swept place)

pub left_says : {run : Run} {asked : Settings} {clears : Bool} {made : Outcome} → Fits (TellsMet run asked) clears made
    → IsLeft (speaker_of run.calling asked) made run.outputs run.status → SaysLines run asked made.messages
left_says {run} {made} fits left = grind (arith, common_steps, swept_error)

unfailed : (failed : Bool) → ◌≡◌ {A = ℕ} 0 (cond failed 1 0) → failed ≡ false
unfailed true is = absurd (omega (arith, is))
unfailed false is = refl

pub record IsWhole (made : Outcome) (new : List Slot) : Type 0 where
  pub sound : made.failed ≡ false
  pub slots : new ≡ slots_of made.part

pub left_whole : {Line : Message → Type 0} {which : Speaker} {clears : Bool} {made : Outcome} {new : List Slot}
    {status : ℕ} → Fits Line clears made → IsLeft which made new status → status ≡ 0 → IsWhole made new
left_whole {made} fits left well = grind (arith, common_steps, unfailed)

-- `tee`, if no output broke and all of the input was copied.

-- a closed file with these bytes
abbrev pub copy : Mode → List ℕ → List ℕ → Slot
copy mode bytes name = closes (adds bytes (opened name mode))

abbrev pub met_by : Bool → Option Fault
met_by true = Some (Read 0)
met_by false = None

abbrev pub tee_made : TeeAsked → Content → Outcome
tee_made asked content = record {
  part = record { out = content.bytes; files = map (copy asked.mode content.bytes) asked.names };
  messages = messages_in (said_of_input no_source (met_by content.breaks_off));
  failed = content.breaks_off;
  sweeps = false;
}

copies_live : (mode : Mode) (bytes : List ℕ) (names : List (List ℕ))
    → AreLive (map (copy mode bytes) names)
copies_live mode bytes names =
    All-map IsLive (copy mode bytes) names
    (λ k name within. (refl, refl))

tee_fits : {Line : Message → Type 0} (asked : TeeAsked) (bytes : List ℕ) (breaks_off : Bool) (shown : Option (List ℕ))
    → (breaks_off ≡ true → Line (message_of (Read 0) (codes "standard input")))
    → Fits Line false (tee_made asked (record { bytes = bytes; breaks_off = breaks_off; shown = shown }))
tee_fits asked bytes true shown tells =
    fits_fault _ false (tells refl) (λ is. is) (copies_live asked.mode bytes asked.names)
tee_fits asked bytes false shown tells = fits_well _ false refl (copies_live asked.mode bytes asked.names)

met_is : {content : Content} (Leaves : List ℕ → Type 0) {is_vain : Bool} {x : List ℕ} {fault : Option Fault}
    → is_vain ≡ false → x ≡ content.bytes → length x < 2 ^ 63 → IsRead content Leaves is_vain x fault
    → fault ≡ met_by content.breaks_off
met_is Leaves left same few (tee.to_end x is ended leaves) = sym (ap met_by ended)
met_is Leaves left same few (tee.to_break x is breaks leaves) = sym (ap met_by breaks)
met_is Leaves left same few (tee.to_limit x piece rest is many within leaves) = grind (arith, common_steps)
met_is Leaves left same few (tee.to_broken_output x rest is leaves) = absurd (cc)

met_status : (breaks_off : Bool) → ◌≡◌ {A = ℕ} (cond (is_none (met_by breaks_off)) 0 1) (cond breaks_off 1 0)
met_status true = refl
met_status false = refl

input_messages : (one other : Source) (fault : Option Fault)
    → messages_in (said_of_input one fault) ≡ messages_in (said_of_input other fault)
input_messages one other None = refl
input_messages one other (Some fault) = refl

tee_left : {calling : Calling} {asked : TeeAsked} {content : Content} {source : Source} {new : List Slot} {status : ℕ}
    (ends : tee.EndsAs (tee_run calling true asked) true content source new status)
    → IsCopied ends → IsLeft (tee_called calling) (tee_made asked content) new status
tee_left {asked} {content} {source} (tee.copied pieces fault old mid comes so_far says closes is) (sound, all) =
    let goes = sound_goes_on asked.on_broken (stands_streams (stands_of so_far)) (old_sound so_far says closes sound) in
    let met = met_is _ goes all comes.few comes.read in record {
      error = says.error;
      says = rw (input_messages no_source source (met_by content.breaks_off))
          (rw met at (each_all _ _ _ _ _ (sound_says so_far says closes sound)));
      swept = rw (all_sound so_far says closes sound, all);
      is = is ∙ sound_status asked.on_broken fault (end_streams so_far says closes) sound ∙ rw met (met_status content.breaks_off);
    }
tee_left (tee.no_room error says unread slots is) copied = absurd copied

-- A text about a tool.

abbrev pub text_made : List ℕ → Outcome
text_made text = record { part = only_out text; messages = []; failed = false; sweeps = false }

-- after a fault the status isn't 0
pub status_some : (fault : Fault) (calling : Calling) (why : Reason) → status_after fault calling why ≡ 0 → ⊥
status_some fault calling why = by_quiet (is_quiet fault calling why) where
  by_quiet : (quiet : Bool) → ◌≡◌ {A = ℕ} (cond quiet 141 1) 0 → ⊥
  by_quiet true is = omega (arith, is)
  by_quiet false is = omega (arith, is)

text_left : {which : Speaker} {text : List ℕ} {new : List Slot} {status : ℕ}
    → TellsText true which text new status → status ≡ 0 → IsLeft which (text_made text) new status
text_left (text_whole slots is) well = grind (arith, common_steps)
text_left (text_cut n short why error says slots is) well = absurd (status_some (Write 0) _ why (sym is ∙ well))
text_left (no_text error says slots is) well = absurd (omega (arith, is, well))

-- All tools.

-- what is asked for makes this outcome of these inputs
abbrev pub Makes : Settings → List Input → Outcome → Type 0
Makes (Tee asked) inputs made = (content : Content) × (inputs ≡ standard_input content ∷ []) × (made ≡ tee_made asked content)
Makes (About which topic) inputs made = made ≡ text_made (text_about which topic)
Makes asked inputs made = (task : Task) × IsTask Cutters asked task × (made ≡ made_by task inputs)

-- what is asked for makes the same by each of its tasks
pub makes_task : (asked : Settings) (task : Task) (inputs : List Input) {made : Outcome} → IsTask Cutters asked task
    → Makes asked inputs made → made ≡ made_by task inputs
makes_task (Tee asked) task inputs of makes = absurd of
makes_task (About which topic) task inputs of makes = absurd of
makes_task asked task inputs of (other, of_too, is) =
    is ∙ ap (λ those. made_by those inputs) (one_task Cutters asked other task of_too of)

-- each of its tasks makes what is asked for
makes_any : (calling : Calling) (asked : Settings) (task : Task) (inputs : List Input) → IsTask calling asked task
    → Makes asked inputs (made_by task inputs)
makes_any calling (Csplit asked) task inputs (operands, asks, is) = rw is (_, (operands, asks, refl), refl)
makes_any calling (Tee asked) task inputs is = absurd is
makes_any calling (About which topic) task inputs is = absurd is
makes_any calling asked task inputs is = rw is (_, refl, refl)

pub same_content : {content other : Content} {inputs : List Input} → inputs ≡ standard_input content ∷ []
    → inputs ≡ standard_input other ∷ [] → content ≡ other
same_content {content} {other} one two = grind (arith, common_steps)

-- what a run left if it did what is asked for
pub record LeftBy (run : Run) (asked : Settings) : Type 0 where
  pub made : Outcome
  pub of : Makes asked (inputs_at run.world (names_of asked)) made
  pub fits : Fits (TellsMet run asked) (removes_files asked) made
  pub left : IsLeft (speaker_of run.calling asked) made run.outputs run.status

-- the works of each tool have live files, and remove files exactly if `removes_files` says so
pub task_lives : (calling : Calling) (asked : Settings) (task : Task) → IsTask calling asked task
    → AreLiving task.work (removes_files asked)
task_lives calling (Head asked) task is = grind (arith, common_steps, head_makes)
task_lives calling (Tail asked) task is = grind (arith, common_steps, tail_makes)
task_lives calling (Split asked) task is = grind (arith, common_steps, way_lives)
task_lives calling (Csplit asked) task (operands, asks, is) = rw is (λ shown. (grind (arith, common_steps, files_there, sections_there), refl))
task_lives calling asked task is = absurd is

ends_left : {run : Run} {asked : Settings} {task : Task} → IsTask run.calling asked task
    → AllDone true true task (inputs_at run.world (names_of asked)) run.inputs run.outputs
    → run.status ≡ status_of (made_by task (inputs_at run.world (names_of asked))) → LeftBy run asked
ends_left {run} {asked} {task} of all is =
    let found = inputs_at run.world (names_of asked) in record {
      made = made_by task found;
      of = makes_any run.calling asked task found of;
      fits = inputs_fit task true found (all_tell run asked task [] found [] of (sym (append-nil found))) (task_lives run.calling asked task of);
      left = record {
        error = all.error;
        says = let said = said_of true task true run.inputs found standard_error all.error all.says in grind (arith, common_steps, speaker_is);
        swept = rw (slots_at all.outputs) at all.swept;
        is = is;
      };
    }

-- the run did what is asked for, over the inputs that it found
abbrev pub Did : Run → Settings → Type 0
Did run asked = DoesAsked all_visible run (inputs_at run.world (names_of asked)) asked

does_left : (run : Run) (asked : Settings) → DoesAll run (inputs_at run.world (names_of asked)) asked → LeftBy run asked
does_left run (Tee asked) did = let does = did.0 in record {
  made = tee_made asked does.content;
  of = (does.content, does.input, refl);
  fits = tee_fits asked does.content.bytes does.content.breaks_off does.content.shown
      (λ breaks. (
        Read 0,
        codes "standard input",
        inr
            (broken_off (standard_input does.content) does.content ([], [], does.input) refl breaks (λ task of. absurd of)),
        refl,
      ));
  left = tee_left does.ends did.1;
}
does_left run (About which topic) did = record {
  made = text_made (text_about which topic);
  of = refl;
  fits = fits_well _ false refl no_live;
  left = text_left did.0 did.1;
}
does_left run asked did = ends_left {asked = asked} did.1 did.2 did.3

pub completes_left : {run : Run} {asked : Settings} → Completes run asked → LeftBy run asked
completes_left {run} {asked} whole = does_left run asked whole.does

-- What the words of a run ask for was done, over what the run found, or its operands were refused.

not_refused : {A B C : Type 0} → A ⊎ (B × C) → A ⊎ C
not_refused (inl did) = inl did
not_refused (inr (same, refuses)) = inr refuses

pub ran_over : {run : Run} {asked : Settings} → Ran run asked
    → Did run asked ⊎ RefusesOperands all_visible run asked
ran_over ran = grind (arith, common_steps, not_refused)

-- Two runs that were asked for the same, over inputs that are alike.

-- `tee` makes the same of inputs that give the same bytes
given_whole : {asked : TeeAsked} {shown : Option (List ℕ)} {content : Content} {bytes : List ℕ}
    → Gives (Tee asked) shown content bytes → (content.bytes ≡ bytes) × (content.breaks_off ≡ false)
given_whole (in_full all ends alike) = (all, ends)
given_whole (at_first more all takes alike) = absurd (cc)

pub given_content : (asked : TeeAsked) {input : Input} {content : Content} {bytes : List ℕ}
    → input.content ≡ Some content
    → GivesBytes (Tee asked) input bytes → (content.bytes ≡ bytes) × (content.breaks_off ≡ false)
given_content asked {content} is gives = grind (arith, common_steps, given_whole)

tee_alike : (asked : TeeAsked) (content other : Content)
    → AreAlike (Tee asked) (standard_input content) (standard_input other)
    → tee_made asked other ≡ tee_made asked content
tee_alike asked content other (are_same is) = grind (arith, common_steps, same_content)
tee_alike asked content other (give_same bytes named gives gives_too) = grind (arith, common_steps, given_content)
tee_alike asked content other (hold_same held shown alike named is is_too) = grind (arith, common_steps)

-- each tool makes the same of an input that gives these bytes, whether the input shows them or not
pub task_knows : (calling : Calling) (asked : Settings) (task : Task) → IsTask calling asked task
    → KnowsNoMore asked task.work
task_knows calling (Head asked) task is =
    rw is (head_knows asked)
task_knows calling (Tail asked) task is =
    rw is (tail_knows asked)
task_knows calling (Split asked) task is = rw is (split_knows asked (filing_of asked))
task_knows calling (Csplit asked) task (operands, asks, is) = rw is (shows_none (Csplit asked) _ refl)
task_knows calling asked task is = absurd is

-- what is asked for makes the same of inputs that are alike
alike_makes : (asked : Settings) (ones others : List Input) {made made_too : Outcome} → AllAlike asked ones others
    → Makes asked ones made → Makes asked others made_too → made_too ≡ made
alike_makes (Tee asked) ones others alike (content, only, is) (content_too, only_too, is_too) =
    is_too ∙ tee_alike asked content content_too (rw (only, only_too) at alike).0 ∙ sym is
alike_makes (About which topic) ones others alike is is_too = is_too ∙ sym is
alike_makes asked ones others alike (task, of, is) makes_too = makes_task asked task others of makes_too
    ∙ sym (is ∙ all_made_alike asked task (task_knows Cutters asked task of) true ones others alike)

-- two runs that were asked for the same, over inputs that are alike, make the same
pub same_made : (one other : Run) {asked : Settings} {made made_too : Outcome}
    → settings_of one.calling one.words ≡ Ok asked → settings_of other.calling other.words ≡ Ok asked
    → FindAlike asked one other
    → Makes asked (inputs_at one.world (names_of asked)) made
    → Makes asked (inputs_at other.world (names_of asked)) made_too → made_too ≡ made
same_made one other {asked} read read_too same makes makes_too =
    alike_makes asked (inputs_at one.world (names_of asked)) (inputs_at other.world (names_of asked))
    (rw (read, read_too) at same) makes makes_too

pub leave_alike : (one other : Run) (asked : Settings) → Completes one asked → Completes other asked
    → FindAlike asked one other → LeaveAlike asked one other
leave_alike one other asked whole whole_too same =
    let here = completes_left whole in
    let there = completes_left whole_too in
    let is = same_made one other whole.read whole_too.read same here.of there.of in
    let two = rw is at there.left in record {
      status = here.left.is ∙ sym two.is;
      count = grind (arith, common_steps, swept_count);
      outputs = λ place differs.
          let a = left_at here.left place differs in
          let b = left_at two place differs in
          record { name = a.name ∙ sym b.name; mode = a.mode ∙ sym b.mode; written = a.written ∙ sym b.written; left = grind (arith, common_steps) };
      said = (here.made.messages, left_says here.fits here.left, left_says (rw is at there.fits) two);
    }
