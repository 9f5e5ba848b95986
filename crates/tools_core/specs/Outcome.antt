-- What a whole run does, by its words.
use Rattle.std.specs.{
  Option.unwrap_or,
  Prelude.{◌≡◌, ℕ, Bool, true, List, [], ◌∷◌, Result, Ok, Err, ◌⊎◌},
}
use Rattle.ports_core.specs.{
  Slot.Slot,
  Source.{Content, source_at},
  Text.{Message, message_of, refusal_of},
  Message.Says,
  declared.{
    calling.{Calling.Calling, Speaker.Speaker},
    tool.Tool.Tool,
    fault.Fault.{Fault, TheVariants.Usage},
  },
  Inputs.CameFrom,
  Streams.{standard_error, streams_with},
}
use Rattle.operand_core.specs.{declared.operand.Operand.Operand, Reading.Asks}
use Rattle.run_core.specs.{Input.{Input, standard_input}, RunEnds.{EndsAs, RunsOver}, Task.Task}
use Rattle.tee_core.specs.Run.{AreSound, TeeRun, all_copied, forgives, EndsAs as TeeCopies}
use Rattle.words_core.specs.{
  declared.settings.Settings.{Settings, TheVariants.{Head, Tail, Split, Csplit, Tee, About}},
  TeeWords.TeeAsked,
  Help.text_about,
  Refusal.{detail_of, word_at},
  Words.{HasBadOperands, tool_named, settings_of},
}
use Rattle.tools_core.specs.{
  About.TellsText,
  Run.{IsUnread, Run, Visible},
  Tasks.{by, csplit_task, head_task, tail_task, split_task, names_of},
}
use Rattle.ports_core.specs.declared.tool.Tool.TheVariants as tool

-- who refuses words: the tool that they name, or the program if they name no tool
abbrev pub speaker : List (List ℕ) → Tool
speaker [] = tool.Cutters
speaker (name ∷ words) = unwrap_or (tool_named name) tool.Cutters

abbrev pub refuser : Calling → List (List ℕ) → Speaker
refuser calling words = by calling (speaker words)

-- the message that refuses words for this fault
abbrev pub refusal : Calling → List (List ℕ) → Fault → Message
refusal calling words (Usage kind place) =
    refusal_of (refuser calling words) kind (word_at words place) (detail_of calling words kind place)
refusal calling words fault = message_of fault []

-- what a tool does with each of its inputs; `tee` has no such task, nor have help and the version
abbrev pub IsTask : Calling → Settings → Task → Type 0
IsTask calling (Head asked) task = task ≡ head_task calling asked
IsTask calling (Tail asked) task = task ≡ tail_task calling asked.ends
IsTask calling (Split asked) task = task ≡ split_task calling asked
IsTask calling (Csplit asked) task = (operands : List Operand) × Asks asked.calling asked.operands operands
    × (task ≡ csplit_task calling asked operands)
IsTask calling asked task = ⊥

-- what is asked of a run of `tee`
abbrev pub tee_run : Calling → Bool → TeeAsked → TeeRun
tee_run calling visible asked = record {
  visible = visible;
  calling = calling;
  mode = asked.mode;
  on_broken = asked.on_broken;
  names = asked.names;
}

-- a run of `tee` over its only input, standard input
pub record TeeEndsAs (visible : Visible) (run : Run) (found : List Input) (asked : TeeAsked) : Type 0 where
  pub content : Content
  pub input : found ≡ standard_input content ∷ []
  pub ends : TeeCopies (tee_run run.calling visible.outputs asked) visible.inputs content
      (source_at run.inputs 0) run.outputs
      run.status
  pub came : CameFrom visible.inputs content (source_at run.inputs 0)
  -- if nothing broke and bytes are visible, standard output and every file have the input's bytes
  pub whole : visible.inputs ≡ true → run.status ≡ 0 → (forgives asked.on_broken ≡ true → AreSound run.outputs)
      → run.outputs ≡ all_copied visible.outputs asked.mode asked.names content.bytes

-- a run over these inputs did what these settings ask for
abbrev pub DoesAsked : Visible → Run → List Input → Settings → Type 0
DoesAsked visible run found (Tee asked) = TeeEndsAs visible run found asked
DoesAsked visible run found (About tool topic) =
    TellsText visible.outputs (by run.calling tool) (text_about tool topic) run.outputs run.status
DoesAsked visible run found asked = (task : Task) × IsTask run.calling asked task
    × EndsAs visible.inputs visible.outputs task found run.inputs run.outputs run.status

-- the words are refused for this fault: there is a message, and the status is 1; nothing else happens
pub record RefusesFor (calling : Calling) (visible : Bool) (words : List (List ℕ)) (fault : Fault) (new : List Slot)
    (status : ℕ) : Type 0 where
  pub error : Slot
  pub says : Says visible (refuser calling words) (refusal calling words fault) standard_error error
  pub slots : new ≡ streams_with error
  pub failed : status ≡ 1

-- a run refused its words for this fault
abbrev pub Refuses : Visible → Run → Fault → Type 0
Refuses visible run fault = RefusesFor run.calling visible.outputs run.words fault run.outputs run.status

-- the settings have operands that can't be read, or there was no memory for them, and the words are refused for that
abbrev pub RefusesOperands : Visible → Run → Settings → Type 0
RefusesOperands visible run settings = (fault : Fault) × HasBadOperands settings fault × Refuses visible run fault

-- A run over the inputs that its words name did what was asked for. Or it refused operands or words; then all inputs
-- are as they were.
abbrev pub RunEndsAt : Visible → Run → Result Settings Fault → Type 0
RunEndsAt visible run (Ok settings) = RunsOver visible.inputs run.world (names_of settings)
    (λ found. DoesAsked visible run found settings ⊎ (IsUnread run × RefusesOperands visible run settings))
RunEndsAt visible run (Err fault) = IsUnread run × Refuses visible run fault

-- a run over inputs did what its words ask for, or refused them
abbrev pub RunEnds : Visible → Run → Type 0
RunEnds visible run = RunEndsAt visible run (settings_of run.calling run.words)

-- the names of the inputs that these words ask for; words that are refused ask for none
abbrev pub names_at : Result Settings Fault → List (List ℕ)
names_at (Ok settings) = names_of settings
names_at (Err fault) = []

abbrev pub names_read : Calling → List (List ℕ) → List (List ℕ)
names_read calling words = names_at (settings_of calling words)
