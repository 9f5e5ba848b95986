-- What all engines have in common: how many bytes came in, and whether a fault or the end came.
use Rattle.std.specs.Prelude.{◌≡◌, ℕ, Bool, false, List, length}
use Rattle.ports_core.specs.{Slot.Slot, declared.fault.Fault.Fault}
use Rattle.engine_core.specs.Engine.{Terms, IsCaused, IsMetThere, IsMetWith}

pub record EngineState (S : Type 0) : Type 0 where
  pub stage : S
  pub fed : ℕ
  pub is_over : Bool

-- the engine may have been fed x: it isn't over, it counted the bytes of x, and its stage may have been fed x
pub record HoldsIn {S : Type 0} (Holds : S → List ℕ → Type 0) (engine : EngineState S) (x : List ℕ) : Type 0 where
  pub live : engine.is_over ≡ false
  pub count : engine.fed ≡ length x
  pub within : Holds engine.stage x

-- what causes a fault of an engine that is fed a piece
abbrev pub IsRefusedWith : {S : Type 0} → Terms S → List ℕ → EngineState S → List Slot → List Slot → Fault → Type 0
IsRefusedWith terms piece engine old new =
    IsCaused (IsMetWith terms piece engine.stage old new) engine.is_over engine.fed (length piece) old new

-- what causes a fault of an engine that is closed
abbrev pub IsRefusedThere : {S : Type 0} → Terms S → EngineState S → List Slot → List Slot → Fault → Type 0
IsRefusedThere terms engine old new =
    IsCaused (IsMetThere terms engine.stage old new) engine.is_over engine.fed 0 old new
