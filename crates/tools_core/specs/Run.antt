-- One run of the program, and what of it is visible.
use Rattle.std.specs.Prelude.{◌≡◌, ℕ, Bool, true, List, [], ◌∷◌, Option, map}
use Rattle.ports_core.specs.{Slot.Slot, Source.{Content, Source, source_of}, declared.calling.Calling.Calling}
use Rattle.run_core.specs.{Input.World, RunSteps.world_of}
use Rattle.watch_core.specs.{Snapshot.Snapshot, Watched.Watched}
use denote.Ref.{Bor}

-- whether bytes are visible: those of inputs, what looks at watched names see, and the bytes of outputs
pub record Visible : Type 0 where
  pub inputs : Bool
  pub watch : Bool
  pub outputs : Bool

abbrev pub visible_by : (inputs watch outputs : Bool) → Visible
visible_by inputs watch outputs = record { inputs = inputs; watch = watch; outputs = outputs }

-- as in memory
abbrev pub all_visible : Visible
all_visible = visible_by true true true

-- One run of the program: its words, what it found, and what it left.
pub record Run : Type 0 where
  -- how the program was called, and its words, of which the first is the tool's name
  pub calling : Calling
  pub words : List (List ℕ)
  -- what standard input holds, and what lies at each name
  pub world : World
  -- whether standard input is a file that can be watched, and what each look of a `tail` that follows would see
  pub fed : Bool
  pub shows : ℕ → Snapshot
  -- what is left of the inputs
  pub inputs : List Source
  -- what the looks saw that were made, and the names as they are watched
  pub seen : List Snapshot
  pub watched : List Watched
  -- standard output, standard error, and then the files, in the order in which they were opened
  pub outputs : List Slot
  pub status : ℕ

-- what a run found and left of its inputs: what lies at each name, and the sources before it and after it
abbrev pub OfInputs : Type 0
OfInputs = (ℕ → List ℕ → Option Content) × List Source × List Source

abbrev pub of_inputs : {Inputs : Type 0} → (Inputs → ℕ → List ℕ → Option Content) → (Inputs → List Source)
    → (old new : Inputs) → OfInputs
of_inputs laid sources old new = (laid old, sources old, sources new)

-- what a run found and left of its watch: whether standard input is a file that can be watched, what each look would see,
-- what the looks saw that were made, and the names as they are watched
abbrev pub OfWatch : Type 0
OfWatch = Bool × (ℕ → Snapshot) × List Snapshot × List Watched

-- the run of a call with these words, which left these outputs and this status
abbrev pub whole_run : Calling → List (Bor (List ℕ)) → OfInputs → OfWatch → (outputs : List Slot) → (status : ℕ) → Run
whole_run calling words inputs watch outputs status = record {
  calling = calling;
  words = map (λ word. word.now) words;
  world = world_of inputs.0 inputs.1;
  fed = watch.0;
  shows = watch.1;
  inputs = inputs.2;
  seen = watch.2;
  watched = watch.3;
  outputs = outputs;
  status = status;
}

-- no input was opened beside standard input, and nothing of that was read
abbrev pub IsUnread : Run → Type 0
IsUnread run = run.inputs ≡ source_of run.world.standard ∷ []
