-- What the callers in `law_tests` and `law_calls` run, and what they say of how it may end.
use Rattle.std.specs.Prelude.{ℕ, List, [], ◌∷◌, codes, ◌⊎◌}
use Rattle.ports_core.specs.{Slot.Slot, Source.{source_of, unshown}, declared.calling.Calling.Calling}
use Rattle.mem_core.specs.MemInState.{MemInState, file_of, laid_in}
use Rattle.run_core.specs.RunSteps.{world_of}
use Rattle.words_core.specs.declared.settings.Settings.{Settings}
use Rattle.promises_core.specs.Promises.{IsSilent, IsStopped}
use Rattle.tools_core.specs.Run.{Run}

-- a run of these words, over what is found there, that left these outputs and this status; the rest is that of any run
abbrev pub run_of : Calling → List (List ℕ) → MemInState → Run → List Slot → ℕ → Run
run_of calling words found rest outputs status = record rest {
  calling = calling;
  words = words;
  world = world_of (laid_in found.files found.breaks) found.sources;
  outputs = outputs;
  status = status;
}

-- standard input with these bytes, which it doesn't show, and no file
abbrev pub in_pipe : List ℕ → MemInState
in_pipe bytes = record { sources = source_of (unshown bytes) ∷ []; files = []; breaks = [] }

-- an empty standard input, and a file `f` with these bytes, which shows that text
abbrev pub in_file : List ℕ → List ℕ → MemInState
in_file bytes shown = record {
  sources = source_of (unshown []) ∷ [];
  files = file_of (codes "f") bytes shown ∷ [];
  breaks = [];
}

-- a fault stopped the run, which told it, unless it may be silent about a reader that is gone
abbrev pub IsCutShort : Run → Settings → Type 0
IsCutShort run asked = IsStopped run asked ⊎ IsSilent run asked
