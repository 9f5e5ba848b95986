-- How a run of the program ends: it follows files, or it runs a tool over its inputs.
use Rattle.std.specs.Prelude.{◌≡◌, ℕ, Bool, false, List, [], Option, Some, None, Result, Ok, Err, ◌⊎◌, if◌then◌else◌}
use Rattle.ports_core.specs.{
  Slot.Slot,
  Source.Source,
  declared.{calling.Calling.{Calling, TheVariants.Cutters}, fault.Fault.{Fault, TheVariants.Memory}},
}
use Rattle.run_core.specs.RunSteps.{world_of}
use Rattle.watch_core.specs.DirWatchState.{any_files}
use Rattle.words_core.specs.{declared.settings.Settings.Settings, Words.{follows, looks, settings_of}}
use Rattle.tools_core.specs.{
  Following.FollowingEnds,
  Outcome.{RefusesFor, RunEnds},
  Run.{IsUnread, Run, Visible, visible_by},
}

-- in how many looks files are followed, if that is asked for; `fed` says whether standard input can be watched
abbrev pub looks_at : Calling → (fed : Bool) → Result Settings Fault → Option ℕ
looks_at calling fed (Ok settings) = if follows calling fed settings then Some (looks settings) else None
looks_at calling fed (Err fault) = None

-- Files were followed in as many looks, and no input was opened or read; or the tool ran over its inputs, and no file
-- was watched.
abbrev pub ProgramEndsAt : Visible → Run → Option ℕ → Type 0
ProgramEndsAt visible run (Some looks) = IsUnread run × FollowingEnds visible run looks
ProgramEndsAt visible run None = (run.seen ≡ []) × (run.watched ≡ []) × RunEnds visible run

-- by what the words ask for
abbrev pub ProgramEnds : Visible → Run → Type 0
ProgramEnds visible run = ProgramEndsAt visible run (looks_at run.calling run.fed (settings_of run.calling run.words))

-- A run over real inputs, outputs and files, whose bytes aren't visible, ended as these words ask for, whether standard
-- input can be watched or not; or there was no memory for the words: that is reported, and nothing else was done.
abbrev pub RanAs : Calling → List (List ℕ) → (old new : List Source) → List Slot → ℕ → Type 0
RanAs calling words old new outputs status =
    ((rest : Run) × ProgramEnds (visible_by false false false) (record rest {
      calling = calling;
      words = words;
      world = world_of (λ slot name. None) old;
      shows = λ n. any_files;
      inputs = new;
      outputs = outputs;
      status = status;
    })) ⊎ ((new ≡ old) × RefusesFor Cutters false [] Memory outputs status)
