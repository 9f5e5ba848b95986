-- What private calls say: which outputs were changed, and how many broke in that.
use Rattle.std.specs.Prelude.{◌≡◌, ℕ, List}
use Rattle.ports_core.specs.Slot.{Slot}
use Rattle.tee_core.specs.Outputs.{ChangesEach, newly_broken}

-- some outputs were changed, and `broke` of them broke
pub record ChangesSome (Change : Slot → Slot → Type 0) (IsOne : ℕ → Type 0) (old new : List Slot)
    (broke : ℕ) : Type 0 where
  pub changes : ChangesEach Change IsOne old new
  pub broke_are : broke ≡ newly_broken old new
