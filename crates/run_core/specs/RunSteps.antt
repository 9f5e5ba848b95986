-- What each step of a run over its inputs leaves.
use Rattle.std.specs.Prelude.{◌≡◌, ℕ, ◌<◌, ◌^◌, Bool, true, false, List, [], length, Option, Some, None, Result, IfOk, IfErr}
use Rattle.ports_core.specs.{
  Slot.Slot,
  Source.{Content, Source, source_at},
  Inputs.HasLooked,
  declared.fault.Fault.Fault,
}
use Rattle.engine_core.specs.{
  Written.{OutputsAt, StoppedBetween, nothing},
  Swept.Swept,
  Work.{Work, Needs},
  EngineState.{EngineState, HoldsIn},
  Engine.{Terms, is_verdict},
}
use Rattle.run_core.specs.{Feeding.{Stops, call_of}, Input.World, Task.Task}

-- a tool's engine was opened from these outputs
pub record Opens {S : Type 0} (terms : Terms S) (asked : Work) (visible : Bool) (old new : List Slot)
    (engine : EngineState S) : Type 0 where
  pub fresh : HoldsIn terms.Holds engine []
  pub does : terms.work engine.stage ≡ asked
  pub bound : engine.fed < 2 ^ 63
  pub ready : terms.Ready engine.stage new
  pub owns : terms.Owns engine.stage (length old) new
  pub outputs : OutputsAt visible old (asked.settled []) new

-- an engine couldn't be opened: the outputs have a beginning of what is first written, and files go if the work clears
-- them
pub record OpensShort (asked : Work) (opening : Needs) (visible : Bool) (old new : List Slot)
    (fault : Fault) : Type 0 where
  pub unjudged : is_verdict fault ≡ false
  pub reached : List Slot
  pub why : Stops (call_of asked opening [] nothing (asked.settled [])) reached fault
  pub stop : StoppedBetween asked.means.output visible old nothing (asked.settled []) fault reached
  pub swept : Swept asked.clears (length old) reached new

-- how opening an engine for this task ended, if the input shows this text or none
abbrev pub OpenedFor : {S : Type 0} → Terms S → Task → (shown : Option (List ℕ)) → (visible : Bool)
    → (old new : List Slot) → Result (EngineState S) Fault → Type 0
OpenedFor terms task shown visible old new result = IfOk result (Opens terms (task.work shown) visible old new)
    × IfErr result (OpensShort (task.work shown) (task.opening shown) visible old new)

-- what a source shows, if bytes are visible; without a source nothing is shown
abbrev pub IsShown : Bool → Option ℕ → List Source → Option (List ℕ) → Type 0
IsShown visible None sources shown = shown ≡ None
IsShown visible (Some slot) sources shown = visible ≡ true → shown ≡ (source_at sources slot).left.shown

-- nothing was done at a source except looks, of at most `most` bytes each
abbrev pub OnlyLooked : ℕ → Option ℕ → List Source → List Source → Type 0
OnlyLooked most None old new = new ≡ old
OnlyLooked most (Some slot) old new = HasLooked most slot old new

-- what lies at each name, and what standard input has left
abbrev pub world_of : (ℕ → List ℕ → Option Content) → List Source → World
world_of laid sources = record { laid = laid; standard = (source_at sources 0).left }
