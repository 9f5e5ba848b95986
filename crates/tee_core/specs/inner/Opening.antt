-- What private calls say: how the files of a tee are opened.
use Rattle.std.specs.Prelude.{◌≡◌, ℕ, List, [], ◌∷◌, ◌++◌}
use Rattle.ports_core.specs.{Slot.Slot, declared.slot.Mode.Mode}
use Rattle.tee_core.specs.Opening.{OpensAs}

-- one more slot, for a file that was opened or couldn't be opened
pub record OpensOne (mode : Mode) (name : List ℕ) (old new : List Slot) : Type 0 where
  pub slot : Slot
  pub opens : OpensAs mode name slot
  pub slots : new ≡ old ++ slot ∷ []
