-- How many steps a search takes that goes to the end of the line: one for each position at each place at which the
-- position can be entered.
use Rattle.std.specs.Prelude.{◌≡◌, ◌↔◌, ℕ, ◌+◌, ◌<◌, ◌≤◌, Bool, List, [], ◌∷◌, length, slice_index_or}
use Rattle.scan_core.specs.{declared.node.Node.Node, Code.Entered, Sets.{IsMarked, positions_among}}

-- the flags of one place
abbrev pub set_at : List (List Bool) → ℕ → List Bool
set_at sets place = slice_index_or sets place []

-- the positions of all the places
abbrev pub positions_in_all : List Node → List (List Bool) → ℕ
positions_in_all code [] = 0
positions_in_all code (set ∷ sets) = positions_among code set + positions_in_all code sets

-- the steps at the first places: one for each position that can be entered there
pub record AreSteps (code : List Node) (line : List ℕ) (places steps : ℕ) : Type 0 where
  pub sets : List (List Bool)
  pub all : length sets ≡ places
  pub exact : (place number : ℕ) → place < places
      → (IsMarked (set_at sets place) number ↔ Entered code line number place)
  pub total : steps ≡ positions_in_all code sets

-- the steps of a search over the whole line
abbrev pub IsStepCount : List Node → List ℕ → ℕ → Type 0
IsStepCount code line steps = AreSteps code line (length line + 1) steps

-- the end is entered at some place
abbrev pub EndsIn : List Node → List ℕ → Type 0
EndsIn code line = (place : ℕ) × (place ≤ length line) × Entered code line (length code) place

-- `steps` is at least the number of steps at all places before the first place at which the end is entered
pub record HasStepsBefore (code : List Node) (line : List ℕ) (steps : ℕ) : Type 0 where
  pub place : ℕ
  pub within : place ≤ length line
  pub ends : Entered code line (length code) place
  pub first : (before : ℕ) → before < place → Entered code line (length code) before → ⊥
  pub before : ℕ
  pub counted : AreSteps code line place before
  pub least : before ≤ steps
