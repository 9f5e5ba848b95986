-- How the files of a tee are opened.
use Rattle.std.specs.Prelude.{◌≡◌, ℕ, List, [], ◌∷◌, ◌++◌, ◌⊎◌}
use Rattle.ports_core.specs.{Slot.{Slot, opened, unopened}, declared.{reason.Reason.Reason, slot.Mode.Mode}}

-- a file was opened under its name; or it couldn't be opened, and its name is lost if there was no memory for it
pub data OpensAs (mode : Mode) (name : List ℕ) : Slot → Type 0 where
  is_opened : OpensAs mode name (opened name mode)
  is_unopened : (kept : List ℕ) (why : Reason) → (kept ≡ name) ⊎ (kept ≡ []) → OpensAs mode name (unopened why kept)

-- one output for each name, in order
pub data OpensEach (mode : Mode) : List (List ℕ) → List Slot → Type 0 where
  no_more : OpensEach mode [] []
  one_more : (name : List ℕ) (names : List (List ℕ)) (slot : Slot) (slots : List Slot) → OpensAs mode name slot
      → OpensEach mode names slots → OpensEach mode (name ∷ names) (slot ∷ slots)

-- the files were opened after the outputs that were there
pub record Opens (mode : Mode) (names : List (List ℕ)) (old new : List Slot) : Type 0 where
  pub since : List Slot
  pub each : OpensEach mode names since
  pub slots : new ≡ old ++ since

-- the first files were opened, and then no number was left for another
pub record OpensSome (mode : Mode) (names : List (List ℕ)) (old new : List Slot) : Type 0 where
  pub first : List (List ℕ)
  pub rest : List (List ℕ)
  pub names_are : names ≡ first ++ rest
  pub opens : Opens mode first old new
