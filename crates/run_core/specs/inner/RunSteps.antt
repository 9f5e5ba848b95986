-- What private calls say: what becomes of an input that is fed to an engine piece by piece, what each step of a run
-- over its inputs leaves, and what it leaves of these.
use Rattle.std.specs.{
  Prelude.{◌≡◌, ℕ, Bool, true, false, List, Result, Ok, Err, ◌&&◌, ◌||◌, length, Option, Some, None},
  Prelude.{if◌then◌else◌, ◌≤◌, ◌<◌},
}
use Rattle.ports_core.specs.{
  Slot.{effect, Slot, is_open, streams},
  declared.fault.Fault.{Fault, TheVariants.{Memory, Write}},
  Source.{Content, Source, source_at},
  Write.BrokeAfter,
  Inputs.{KeepsOthers, empty, AsksAtMost},
  Streams.streams_with,
}
use Rattle.engine_core.specs.{
  Swept.Swept,
  EngineState.{EngineState, IsRefusedThere},
  Engine.{Clears, Terms, Finishes, is_verdict},
  Written.{Written, OutputsAt},
}
use Rattle.run_core.specs.{
  declared.{feeding.Fed.Fed, inputs.RunProgress.RunProgress},
  Feeding.{FedAs, IsCall, StoppedStep, is_stop},
  Input.{Input, IsFor, World, is_dash, input_of, next_slot},
  Reading.{AreUntouched, IsDone, LeavesAt, reason_of},
  RunEnds.{AllDone, RunStep, SaysFrom, StoppedAt},
  RunSteps.{IsShown, world_of},
  Task.{Task, made_by, after_part, is_missing, of_input},
}

-- How closing an engine that has all of its input ends: it finished; or a fault stopped it, and its files go if the
-- work clears them. If the fault is a verdict, the engine itself removed them.
pub data EndsSo {S : Type 0} (terms : Terms S) (visible : Bool) (engine : EngineState S) (fed : Fed)
    (old new : List Slot) : Result Fed Fault → Type 0 where
  finished : (next : S)
      → Finishes terms engine.stage next (effect visible old new) (IsRefusedThere terms engine) (Ok tt)
      → EndsSo terms visible engine fed old new (Ok fed)
  fell_short : (fault : Fault) (next : S) (reached : List Slot)
      → Finishes terms engine.stage next (effect visible old reached) (IsRefusedThere terms engine) (Err fault)
      → (is_verdict fault ≡ true → new ≡ reached) → (is_verdict fault ≡ false → Clears terms next reached new)
      → EndsSo terms visible engine fed old new (Err fault)

-- the outputs are at some part, and standard error is open
pub record HasStreams (visible : Bool) (slots : List Slot) : Type 0 where
  pub part : Written
  pub error : Slot
  pub at : OutputsAt visible (streams_with error) part slots
  pub opened : is_open error.state ≡ true

-- how a header fails to be written
pub data HeaderFails (visible : Bool) (text : List ℕ) (old new : List Slot) : Fault → Type 0 where
  no_room : new ≡ old → HeaderFails visible text old new Memory
  broke : (n : ℕ) → BrokeAfter visible old new 0 text n → HeaderFails visible text old new (Write 0)

-- the input of a name, if it can be read
abbrev pub input_from : List ℕ → Option ℕ → Option (List ℕ) → Content → Input
input_from name slot shown content = record { name = name; slot = slot; shown = shown; content = Some content }

-- `P` is true of the input that a source gives: standard input or a file by its number, or an empty input
abbrev pub OfSource : Bool → Option ℕ → List Source → (Content → Type 0) → Type 0
OfSource visible None sources P = P empty
OfSource visible (Some slot) sources P =
    (content : Content) × (visible ≡ true → content ≡ (source_at sources slot).left)
    × P content

abbrev pub OfName : Bool → World → Bool → ℕ → List ℕ → (Input → Type 0) → Type 0
OfName visible world was_read slot name P = (input : Input) × IsFor was_read slot name input
    × (visible ≡ true → input ≡ input_of world was_read slot name (is_dash name)) × P input

-- the outputs and the sources at one moment
pub record Moment : Type 0 where
  pub sources : List Source
  pub slots : List Slot

abbrev pub moment_of : List Source → List Slot → Moment
moment_of sources slots = record { sources = sources; slots = slots }

-- the input of a source was fed to an engine of its own, which was opened by what the source shows
abbrev pub FedSource : (visible_in visible : Bool) → Task → (most : ℕ) → Option ℕ → (old new : Moment)
    → Result Fed Fault
    → Type 0
FedSource visible_in visible task most source old new result =
    (shown : Option (List ℕ)) × IsShown visible_in source old.sources shown
    × OfSource visible_in source old.sources (λ content.
    FedAs visible old.slots (task.work shown) content
    (λ call. IsCall (task.work shown) (task.opening shown) most content call
    × LeavesAt visible_in content source new.sources call) new.slots result
    × (is_stop result ≡ false → IsDone visible_in (task.work shown) most source (Some content) new.sources))

-- where a run stands before an input
pub record RunStart : Type 0 where
  -- whether no header was written yet, whether a fault was met, and whether standard input was read
  pub progress : RunProgress
  pub sources : List Source
  -- how many bytes a piece has at most
  pub most : ℕ
  -- what was written, if bytes of outputs are visible, and standard error
  pub visible : Bool
  pub part : Written
  pub error : Slot
  -- how many outputs there are; the files after these may be removed
  pub count : ℕ

abbrev pub start_at : {visible : Bool} {slots : List Slot} → HasStreams visible slots → RunProgress → ℕ → List Source
    → RunStart
start_at {visible} {slots} had progress most sources = record {
  progress = progress;
  sources = sources;
  most = most;
  visible = visible;
  part = had.part;
  error = had.error;
  count = length slots;
}

-- what an input makes of how far a run has come
abbrev pub progress_past : Task → Input → RunProgress → RunProgress
progress_past task input progress = record progress {
  is_first = progress.is_first && is_missing input.content;
  failed = progress.failed || (of_input task progress.is_first input).failed;
}

-- one input was done, or a fault stopped the run there
pub data TookInput (visible : Bool) (task : Task) (input : Input) (start : RunStart) (sources : List Source)
    (new : List Slot) : Result RunProgress Fault → Type 0 where
  took : (next : RunProgress) (after : Slot) (reached : List Slot) → next ≡ progress_past task input start.progress
      → IsDone visible (task.work input.shown) start.most input.slot input.content sources
      → SaysFrom start.visible task.speaker (reason_of input.slot sources)
      (of_input task start.progress.is_first input).messages start.error after
      → OutputsAt start.visible (streams_with after)
      (after_part start.part (of_input task start.progress.is_first input).part) reached
      → Swept (of_input task start.progress.is_first input).sweeps start.count reached new
      → TookInput visible task input start sources new (Ok next)
  cut_off : (fault : Fault)
      → StoppedStep start.visible (streams_with start.error) start.count (task.work input.shown).clears
      (RunStep visible task start.most start.part start.progress.is_first input sources) fault new
      → TookInput visible task input start sources new (Err fault)

-- the same of the input of this source, which has this name
abbrev pub TookSource : (visible : Bool) → Task → List ℕ → Option ℕ → RunStart → List Source → List Slot
    → Result RunProgress Fault → Type 0
TookSource visible task name source start sources new result =
    (shown : Option (List ℕ)) × IsShown visible source start.sources shown × OfSource visible source start.sources
    (λ content. TookInput visible task (input_from name source shown content) start sources new result)

-- the same of the input for this name
abbrev pub TookName : (visible : Bool) → (ℕ → List ℕ → Option Content) → Task → List ℕ → RunStart → List Source
    → List Slot
    → Result RunProgress Fault → Type 0
TookName visible laid task name start sources new result =
    OfName visible (world_of laid start.sources) start.progress.was_read (length start.sources) name
    (λ input. TookInput visible task input
    (record start { progress = record start.progress { was_read = start.progress.was_read || is_dash name } }) sources
    new result)

-- all inputs were done, or a fault stopped the run at one of them, or before the first
pub data TookAll (visible_in visible : Bool) (task : Task) (inputs : List Input) (sources : List Source)
    (new : List Slot) : Result Bool Fault → Type 0 where
  all : (failed : Bool) → failed ≡ (made_by task inputs).failed → AllDone visible_in visible task inputs sources new
      → TookAll visible_in visible task inputs sources new (Ok failed)
  stopped_at : (fault : Fault) → StoppedAt visible_in visible task inputs sources fault new
      → TookAll visible_in visible task inputs sources new (Err fault)
  not_begun : new ≡ streams → AreUntouched inputs sources → length sources ≡ 1
      → TookAll visible_in visible task inputs sources new (Err Memory)

-- no input except that of the source was touched
abbrev pub KeepsOther : Option ℕ → List Source → List Source → Type 0
KeepsOther None old new = new ≡ old
KeepsOther (Some slot) old new = KeepsOthers slot old new

-- what a `-` reads: standard input the first time, and nothing again
abbrev pub standard_source : Bool → Option ℕ
standard_source was_read = if was_read then None else Some 0

-- What taking a name leaves of the inputs. A file is one more at the most, the files before it are as they were, and
-- only the first `-` touches standard input.
pub record TakesOne (most : ℕ) (was_read : Bool) (name : List ℕ) (old new : List Source) : Type 0 where
  pub grown : length old ≤ length new
  pub within : length new ≤ next_slot (length old) name
  pub files : (place : ℕ) → 0 < place → place < length old → source_at new place ≡ source_at old place
  pub unasked : is_dash name ≡ false → source_at new 0 ≡ source_at old 0
  pub again : was_read ≡ true → source_at new 0 ≡ source_at old 0
  pub asked : AsksAtMost most old → AsksAtMost most new
