-- What a walk along a line with a pattern's table returns.
use Rattle.std.specs.Prelude.{◌↔◌, ℕ, ◌+◌, ◌*◌, ◌≤◌, Bool, IsTrue, IsFalse, List, length}
use Rattle.scan_core.specs.{
  declared.{node.Node.Node, walk.Outcome.Outcome},
  Code.weight,
  Counted.{EndsIn, HasStepsBefore, IsStepCount},
}

-- `found` says whether a line has a match
abbrev pub IsFound : List Node → List ℕ → Bool → Type 0
IsFound code line found = IsTrue found ↔ EndsIn code line

-- what a walk along a line returns
pub record IsOutcome (code : List Node) (line : List ℕ) (outcome : Outcome) : Type 0 where
  pub exact : IsFound code line outcome.found
  pub counted : IsFalse outcome.found → IsStepCount code line outcome.steps
  pub least : IsTrue outcome.found → HasStepsBefore code line outcome.steps
  pub bound : outcome.steps ≤ (length line + 1) * (weight code + 1)
