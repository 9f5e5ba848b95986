-- What private calls say: the ways to cut, as one stage.
use Rattle.std.specs.Prelude.{ℕ, List, length, Result}
use Rattle.ports_core.specs.{Slot.Effect, declared.fault.Fault.Fault}
use Rattle.split_core.specs.{
  Ways.terms,
  declared.splitter.Splitter.{Splitter, TheVariants.{Parts, Round, Chunks, Turn}},
}
use Rattle.engine_core.specs.Engine as engine

-- what a call leaves that takes in a piece
abbrev pub PassesAs : (old new : Splitter) → List ℕ → Effect → Result (Unit {0}) Fault → Type 0
PassesAs old new piece outs = engine.Passes terms piece old new outs (engine.IsMetWith terms piece old)

-- what the call at the end leaves
abbrev pub EndsAs : (old new : Splitter) → Effect → Result (Unit {0}) Fault → Type 0
EndsAs old new outs = engine.Finishes terms old new outs (engine.IsMetThere terms old)

-- how many bytes wait; of dealt lines none do
abbrev pub held : Splitter → ℕ
held (Parts state) = length state.waiting
held (Round state) = 0
held (Chunks state) = length state.waiting
held (Turn state) = 0
