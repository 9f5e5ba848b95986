-- What a run of `tee` leaves, step by step.
use Rattle.std.specs.{
  Prelude.{is_none, ◌≡◌, ℕ, ◌≤◌, ◌<◌, ◌^◌, ◌||◌, ◌+◌, not, Bool, true, false, List, [], ◌∷◌, ◌++◌, length, map},
  Prelude.{zero, suc, get_or, Option, Some, None, ◌⊎◌, codes, if◌then◌else◌},
  List.{concat, list_any},
}
use Rattle.ports_core.specs.{
  Slot.{Slot, adds, changed_at, closes, opened, slot_at, visible_of},
  Inputs.{CameFrom, OfContent, largest_piece},
  Source.{Content, Source, source_of},
  Text.message_of,
  Message.{Report, SaysAll, SaysEach},
  declared.calling.{Calling.Calling, Speaker.Speaker},
  declared.reason.Reason.Reason,
  declared.on_broken.OnBroken.{OnBroken, TheVariants.{Warn, Exit, WarnNoPipe, ExitNoPipe, Signal}},
  declared.slot.Mode.Mode,
  declared.tool.Tool.TheVariants.Tee,
  declared.fault.Fault.{Fault, TheVariants.{Memory, Write, Read, Open, TooLong}},
  Streams.{standard_output, standard_error, streams_with},
}
use Rattle.tee_core.specs.{
  declared.standing.Standing.{Standing, TheVariants.{Sound, Broken, Gone}},
  Opening.OpensAs,
  Outputs.{ChangesEach, Closes, Gets},
}
use Rattle.ports_core.specs.declared.reason.Reason.TheVariants as reason
use denote.Ref.{Bor}

-- who speaks in the messages of `tee`
abbrev pub tee_called : Calling → Speaker
tee_called calling = record { calling = calling; tool = Tee }

-- What is asked of a run of `tee`. `visible` says whether the bytes of its outputs are visible.
pub record TeeRun : Type 0 where
  pub visible : Bool
  pub calling : Calling
  pub mode : Mode
  pub on_broken : OnBroken
  pub names : List (List ℕ)

abbrev pub tee_run : Bool → Calling → Mode → OnBroken → List (Bor (List ℕ)) → TeeRun
tee_run visible calling mode on_broken names = record {
  visible = visible;
  calling = calling;
  mode = mode;
  on_broken = on_broken;
  names = map (λ name. name.now) names;
}

-- how an output stands that broke for this reason: it is gone if its reader is gone
abbrev pub lost_for : Reason → Standing
lost_for reason.Gone = Gone
lost_for why = Broken

-- how an output stands, by its slot
abbrev pub stands_as : Slot → Standing
stands_as slot = if slot.is_broken then lost_for slot.reason else Sound

-- How the outputs stand to which `tee` copies: slot 0, and then the files. Slot 1, standard error, is left out.
abbrev pub standings_of : List Slot → List Standing
standings_of [] = []
standings_of (output ∷ []) = []
standings_of (output ∷ error ∷ files) = stands_as output ∷ map stands_as files

-- whether some output stands so

abbrev pub is_same : Standing → Standing → Bool
is_same Sound Sound = true
is_same Broken Broken = true
is_same Gone Gone = true
is_same one other = false

abbrev pub any_is : Standing → List Standing → Bool
any_is one [] = false
any_is one (standing ∷ standings) = is_same standing one || any_is one standings

-- whether an output that stands so ends a run, whatever outputs are left
abbrev pub ends_run : Standing → OnBroken → Bool
ends_run Broken Exit = true
ends_run Broken ExitNoPipe = true
ends_run Gone Exit = true
ends_run Gone Signal = true
ends_run standing on_broken = false

-- Whether a run ends if its outputs stand so: some output ends it, or none is sound.
abbrev pub is_done : OnBroken → List Standing → Bool
is_done on_broken standings =
    list_any (λ standing. ends_run standing on_broken) standings || not (any_is Sound standings)

-- whether an output that is gone isn't reported
abbrev pub is_quiet : OnBroken → Bool
is_quiet Warn = false
is_quiet Exit = false
is_quiet on_broken = true

-- whether there is a message for an output that stands so
abbrev pub is_told : OnBroken → Standing → Bool
is_told on_broken Sound = false
is_told on_broken Broken = true
is_told on_broken Gone = not (is_quiet on_broken)

-- whether there is a message for an output that stood as the first says, and now stands as the second says
abbrev pub tells : OnBroken → Standing → Standing → Bool
tells on_broken Sound now = is_told on_broken now
tells on_broken was now = false

-- what messages call the outputs
abbrev pub output_names : List (List ℕ) → List (List ℕ)
output_names names = codes "standard output" ∷ names

-- the slot of output n: standard error stands between standard output and the files
abbrev pub output_slot : ℕ → ℕ
output_slot zero = 0
output_slot (suc n) = suc (suc n)

abbrev pub output_at : List Slot → ℕ → Slot
output_at slots n = slot_at slots (output_slot n)

-- the report that output n, of this slot, met the fault: with the name of the output, and the reason why it broke
abbrev pub report_of : TeeRun → Fault → ℕ → Slot → Report
report_of run fault n slot = record {
  message = message_of fault (get_or (output_names run.names) n []);
  why = slot.reason;
}

-- The reports of those of the first n outputs that are sound in `was` and broken in `now`, in their order. Standard
-- error isn't counted, and a break that isn't to be reported has no report.
abbrev pub said_since : TeeRun → Fault → (was : List Standing) → (now : List Slot) → ℕ → List Report
said_since run fault was now zero = []
said_since run fault was now (suc n) = said_since run fault was now n
    ++ (if tells run.on_broken (get_or was n Sound) (stands_as (output_at now n))
    then report_of run fault n (output_at now n) ∷ [] else [])

-- the reports of all outputs that broke in a step
abbrev pub said_in : TeeRun → Fault → (old new : List Slot) → List Report
said_in run fault old new = said_since run fault (standings_of old) new (length run.names + 1)

-- the report of the fault that ended the reading of this source, if one did
abbrev pub said_of_input : Source → Option Fault → List Report
said_of_input source None = []
said_of_input source (Some fault) =
    record { message = message_of fault (codes "standard input"); why = source.reason } ∷ []

-- standard error got the lines of these reports, and no other slot changed
pub record SaysTo (run : TeeRun) (reports : List Report) (old new : List Slot) : Type 0 where
  pub error : Slot
  pub said : SaysEach run.visible (tee_called run.calling) reports (slot_at old 1) error
  pub slots : new ≡ changed_at 1 (λ _. error) old

-- whether the input failed, or an output broke whose reader isn't gone
abbrev pub has_failed : List Standing → Option Fault → Bool
has_failed standings fault = not (is_none fault) || any_is Broken standings

-- The status if an output is gone. Under `Signal`, which is by the tool's own name with neither `-p` nor
-- `--output-error`, it is 141, as if a signal had ended the run.
abbrev pub gone_status : OnBroken → Bool → ℕ
gone_status Signal failed = 141
gone_status WarnNoPipe failed = if failed then 1 else 0
gone_status ExitNoPipe failed = if failed then 1 else 0
gone_status on_broken failed = 1

abbrev pub status_for : OnBroken → List Standing → Option Fault → ℕ
status_for on_broken standings fault = if any_is Gone standings
    then gone_status on_broken (has_failed standings fault) else if has_failed standings fault then 1 else 0

-- whether an output that is gone is no failure
abbrev pub forgives : OnBroken → Bool
forgives WarnNoPipe = true
forgives ExitNoPipe = true
forgives on_broken = false

-- no output is broken, except perhaps standard error
abbrev pub AreSound : List Slot → Type 0
AreSound slots = (place : ℕ) → (place ≡ 1 → ⊥) → (slot_at slots place).is_broken ≡ false

-- How far an input is read: to its end; until it breaks off; up to a piece with which it has more bytes than any tool
-- takes, and which isn't copied; or, if `is_vain`, up to the piece with which broken outputs ended the run. x is all
-- that was copied, and `Leaves` says what is left unread.
pub data IsRead (content : Content) (Leaves : List ℕ → Type 0) : (is_vain : Bool) → List ℕ → Option Fault → Type 0 where
  to_end : (x : List ℕ) → content.bytes ≡ x → content.breaks_off ≡ false → Leaves []
      → IsRead content Leaves false x None
  to_break : (x : List ℕ) → content.bytes ≡ x → content.breaks_off ≡ true → Leaves []
      → IsRead content Leaves false x (Some (Read 0))
  to_limit : (x piece rest : List ℕ) → content.bytes ≡ (x ++ piece) ++ rest → 2 ^ 63 ≤ length (x ++ piece)
      → length piece ≤ largest_piece → Leaves rest → IsRead content Leaves false x (Some TooLong)
  to_broken_output : (x rest : List ℕ) → content.bytes ≡ x ++ rest → Leaves rest → IsRead content Leaves true x None

-- if bytes are visible, this is left of the source
abbrev pub LeavesOf : Bool → Source → List ℕ → Type 0
LeavesOf visible source rest = visible ≡ true → source.left.bytes ≡ rest

-- no read was made of a source, and it didn't break; if bytes are visible, it has this input
abbrev pub IsAsFound : Bool → Content → Source → Type 0
IsAsFound visible content source = (there : Content) × (source ≡ source_of there) × (visible ≡ true → there ≡ content)

-- the last read gave as many bytes as the last of these pieces has
abbrev pub GaveLast : List (List ℕ) → Source → Type 0
GaveLast pieces source = (before : List (List ℕ)) (piece : List ℕ) → pieces ≡ before ++ piece ∷ []
    → source.last ≡ length piece

-- An input came in these pieces. `is_vain` says that broken outputs ended the reading.
pub record ComesIn (visible : Bool) (content : Content) (source : Source) (is_vain : Bool) (pieces : List (List ℕ))
    (fault : Option Fault) : Type 0 where
  pub read : IsRead content (LeavesOf visible source) is_vain (concat pieces) fault
  -- together the pieces have no more bytes than any tool takes
  pub few : length (concat pieces) < 2 ^ 63
  -- a read failed only if that is the fault
  pub met : (fault ≡ Some (Read 0)) ⊎ (source.is_broken ≡ false)
  -- without a fault, a read reported the end, unless broken outputs ended the reading
  pub ended : fault ≡ None → is_vain ≡ false → source.ended ≡ true
  -- if broken outputs ended the reading, the last read gave the last piece
  pub last : visible ≡ true → is_vain ≡ true → GaveLast pieces source
  -- one read for each piece, and one that reported the end, failed or gave too much, unless broken outputs ended that
  pub reads : source.reads ≡ length pieces + (if is_vain then 0 else 1)

-- What `OpensAll` starts from: the streams as a run finds them, and for each name a slot as if its file had been
-- opened.
abbrev pub all_opened : TeeRun → List Slot
all_opened run = standard_output ∷ standard_error ∷ map (λ name. opened name run.mode) run.names

-- the slots of the files of these names
abbrev pub IsFileOf : List (List ℕ) → ℕ → Type 0
IsFileOf names place = (2 ≤ place) × (place < length names + 2)

-- the slots to which `tee` copies: slot 0 and the files
abbrev pub IsOutputOf : List (List ℕ) → ℕ → Type 0
IsOutputOf names place = (place ≡ 1 → ⊥) × (place < length names + 2)

-- One step of a run: each slot that `IsOne` names was changed as `Change` says. Then standard error got the message of
-- `fault` for each output that broke in this step, with its reason, unless its reader is gone and that isn't reported.
pub record Step (run : TeeRun) (fault : Fault) (Change : Slot → Slot → Type 0) (IsOne : ℕ → Type 0)
    (old new : List Slot) : Type 0 where
  pub mid : List Slot
  pub changes : ChangesEach Change IsOne old mid
  pub said : SaysTo run (said_in run fault old mid) mid new

-- Each file was opened, or couldn't be. The 0 of `Open 0` and `Write 0` says nothing: a message has the name of an
-- output, and no number of a slot.
abbrev pub OpensAll : TeeRun → List Slot → List Slot → Type 0
OpensAll run = Step run (Open 0) (λ file now. OpensAs file.mode file.name now) (IsFileOf run.names)

-- each output that wasn't broken got the piece, or it got a beginning of the piece and broke
abbrev pub CopiesPiece : TeeRun → List ℕ → List Slot → List Slot → Type 0
CopiesPiece run piece = Step run (Write 0) (Gets run.visible piece) (IsOutputOf run.names)

-- each file that wasn't broken was closed, or broke as it was closed
abbrev pub ClosesAll : TeeRun → List Slot → List Slot → Type 0
ClosesAll run = Step run (Write 0) Closes (IsFileOf run.names)

-- The files were opened, and these pieces were copied. Each has a size that one read gives. Before each piece `is_done`
-- was false: no broken output had ended the run.
pub data Copied (run : TeeRun) : List (List ℕ) → List Slot → Type 0 where
  started : (new : List Slot) → OpensAll run (all_opened run) new → Copied run [] new
  one_more : (pieces : List (List ℕ)) (piece : List ℕ) (old new : List Slot) → Copied run pieces old
      → is_done run.on_broken (standings_of old) ≡ false → 0 < length piece → length piece ≤ largest_piece
      → CopiesPiece run piece old new → Copied run (pieces ++ piece ∷ []) new

-- How a run ends.
pub data EndsAs (run : TeeRun) (visible_in : Bool) (content : Content) (source : Source) (new : List Slot) (status : ℕ)
    : Type 0 where
  -- The input came in pieces, and each was copied: `fed` is what that left. Then the fault that ended the reading was
  -- reported, if one did (`mid`), with the reason of the source, and the files were closed.
  copied : (pieces : List (List ℕ)) (fault : Option Fault) (fed mid : List Slot)
      → ComesIn visible_in content source (is_done run.on_broken (standings_of fed)) pieces fault
      → Copied run pieces fed
      → SaysTo run (said_of_input source fault) fed mid → ClosesAll run mid new
      → status ≡ status_for run.on_broken (standings_of new) fault → EndsAs run visible_in content source new status
  -- There was no memory for the run, and nothing was opened or read.
  no_room : (error : Slot)
      → SaysAll run.visible (tee_called run.calling) (message_of Memory [] ∷ []) standard_error error
      → IsAsFound visible_in content source → new ≡ streams_with error → status ≡ 1
      → EndsAs run visible_in content source new status

-- A run ended over an input that had this source before it and has this source after it, as far as that is visible.
abbrev pub EndsOver : TeeRun → (visible_in : Bool) → (before after : Source) → List Slot → (status : ℕ) → Type 0
EndsOver run visible_in before after new status = OfContent visible_in before.left
    (λ content. EndsAs run visible_in content after new status × CameFrom visible_in content after)

-- the outputs if nothing breaks: standard output and each file have these bytes, files are closed, nothing is reported
abbrev pub all_copied : Bool → Mode → List (List ℕ) → List ℕ → List Slot
all_copied visible mode names bytes =
    adds (visible_of visible bytes) standard_output ∷ standard_error ∷ map
    (λ name. closes (adds (visible_of visible bytes) (opened name mode))) names
