-- How a run over its inputs ends, from the streams as it found them.
use Rattle.std.specs.Prelude.{◌≡◌, ℕ, ◌≤◌, Bool, true, false, List, [], ◌∷◌, ◌++◌, length, map, Some}
use Rattle.ports_core.specs.{
  Slot.Slot,
  Source.{Content, Source},
  Text.{Message, message_of, status_after},
  Message.{SaysAll, SaysEach, TellsOn, output_reason},
  Inputs.largest_piece,
  Streams.{standard_error, streams_with},
  declared.{calling.Speaker.Speaker, fault.Fault.{Fault, TheVariants.Memory}, reason.Reason.Reason},
}
use Rattle.engine_core.specs.{Written.{Written, OutputsAt, only_out, gets_none, gets_bytes}, Swept.Swept, Work.no_needs}
use Rattle.run_core.specs.{
  Feeding.{IsCall, Step, StoppedStep, step_from},
  Input.{Input, World, Finds},
  Reading.{AreDone, AreUntouched, LeavesAt, reason_of},
  Task.{Task, made_by, of_input, after_part, header_text, are_missing, status_of},
}

-- a step, after what was written before
abbrev pub step_after : Written → Step → Step
step_after first step = record step { low = after_part first step.low; high = after_part first step.high }

-- a step that writes nothing, and may need memory
abbrev pub memory_step : Written → Step
memory_step so_far = step_from gets_none false (record { memory = true; files = false }) [] so_far so_far

-- what was written before an input, with the header of this input
abbrev pub headed : Task → Written → Bool → Input → Written
headed task so_far is_first input = after_part so_far (only_out (header_text task.with_header is_first input.name))

-- one step at an input, after what was written before; `LeavesAt` says what is left of an input that was opened
pub data RunStep (visible : Bool) (task : Task) (most : ℕ) (so_far : Written) (is_first : Bool) (input : Input)
    (sources : List Source) : Step → Type 0 where
  -- there is no memory to open the input
  unopened : (place : ℕ) → input.slot ≡ Some place → length sources ≤ place
      → RunStep visible task most so_far is_first input sources (memory_step so_far)
  -- there is no memory for the header
  unheaded : (content : Content) → input.content ≡ Some content → task.with_header ≡ true
      → LeavesAt visible content input.slot sources (memory_step so_far)
      → RunStep visible task most so_far is_first input sources (memory_step so_far)
  -- the header is written
  heading : (content : Content) → input.content ≡ Some content → task.with_header ≡ true
      → LeavesAt visible content input.slot sources
      (step_from gets_bytes false no_needs [] so_far (headed task so_far is_first input))
      → RunStep visible task most so_far is_first input sources
      (step_from gets_bytes false no_needs [] so_far (headed task so_far is_first input))
  -- the engine is called
  calling : (content : Content) (call : Step) → input.content ≡ Some content
      → IsCall (task.work input.shown) (task.opening input.shown) most content call
      → LeavesAt visible content input.slot sources call
      → RunStep visible task most so_far is_first input sources (step_after (headed task so_far is_first input) call)

-- an output got these messages, one after another, all with this reason
abbrev pub SaysFrom : Bool → Speaker → Reason → List Message → Slot → Slot → Type 0
SaysFrom visible speaker why messages =
    SaysEach visible speaker (map (λ message. record { message = message; why = why }) messages)

-- an output got the messages on these inputs, in order, each with the reason for which its source broke
abbrev pub SaysOf : Bool → Task → List Source → List Input → Slot → Slot → Type 0
SaysOf visible task sources [] old new = new ≡ old
SaysOf visible task sources (input ∷ inputs) old new = (mid : Slot)
    × SaysFrom visible task.speaker (reason_of input.slot sources) (of_input task true input).messages old mid
    × SaysOf visible task sources inputs mid new

-- All inputs were done: each was written, or reported, or both.
pub record AllDone (visible_in visible : Bool) (task : Task) (inputs : List Input) (sources : List Source)
    (new : List Slot) : Type 0 where
  -- Standard error at the end, which has all messages. Slots keep no order between outputs, so here it stands among
  -- them from the beginning.
  pub error : Slot
  pub says : SaysOf visible task sources inputs standard_error error
  -- the outcome is written, and then files were removed if that is due
  pub reached : List Slot
  pub outputs : OutputsAt visible (streams_with error) (made_by task inputs).part reached
  pub swept : Swept (made_by task inputs).sweeps 2 reached new
  pub done : AreDone visible_in task.work largest_piece inputs sources

-- A fault stopped one step at an input.
pub record StoppedAt (visible_in visible : Bool) (task : Task) (inputs : List Input) (sources : List Source)
    (fault : Fault) (new : List Slot) : Type 0 where
  -- the inputs before this input were done and reported, and the inputs after it weren't touched
  pub before : List Input
  pub input : Input
  pub after : List Input
  pub are : inputs ≡ before ++ input ∷ after
  pub done : AreDone visible_in task.work largest_piece before sources
  pub untouched : AreUntouched after sources
  -- standard error with their messages; here, too, it stands among the outputs from the beginning
  pub error : Slot
  pub says : SaysOf visible task sources before standard_error error
  pub stop : StoppedStep visible (streams_with error) 2 (task.work input.shown).clears
      (RunStep visible_in task largest_piece (made_by task before).part (are_missing before) input sources) fault new

-- How a run ends. `inputs` are what was found at the names that it was given, in their order.
pub data EndsAs (visible_in visible : Bool) (task : Task) (inputs : List Input) (sources : List Source)
    (new : List Slot)
    (status : ℕ) : Type 0 where
  -- All inputs were done, and the status is that of the outcome.
  as_defined : AllDone visible_in visible task inputs sources new → status ≡ status_of (made_by task inputs)
      → EndsAs visible_in visible task inputs sources new status
  -- A fault stopped it, and left the outputs `mid`. It was reported, unless nothing is said of a reader that is gone.
  stopped : (fault : Fault) (mid : List Slot) → StoppedAt visible_in visible task inputs sources fault mid
      → TellsOn visible task.speaker fault mid new
      → status ≡ status_after fault task.speaker.calling (output_reason mid fault)
      → EndsAs visible_in visible task inputs sources new status
  -- There was no memory for the run. No input was opened or touched, so there is standard input alone.
  no_room : (error : Slot) → SaysAll visible task.speaker (message_of Memory [] ∷ []) standard_error error
      → new ≡ streams_with error → AreUntouched inputs sources → length sources ≡ 1 → status ≡ 1
      → EndsAs visible_in visible task inputs sources new status

-- a run found some inputs for these names, and `P` is true of them
abbrev pub RunsOver : Bool → World → List (List ℕ) → (List Input → Type 0) → Type 0
RunsOver visible world names P = (inputs : List Input) × Finds visible world names inputs × P inputs
