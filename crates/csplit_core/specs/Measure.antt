-- What steps say of the numbers alone. By this a plan has no more steps than there are lines for.
use Rattle.std.specs.Prelude.{◌≡◌, ℕ, ◌+◌, ◌*◌, ◌<◌, ◌≤◌, List, [], ◌∷◌}
use Rattle.csplit_core.specs.{Operand.{Target, Number, Search, Operand}, Plan.{State, CutPoint}}

-- a cut moves on: it is the next multiple of a line number, or a later line was matched than before
abbrev pub Moves : (total : ℕ) → State → Target → CutPoint → Type 0
Moves total state (Number n) cut = cut.line ≡ n * (state.repetition + 1)
Moves total state (Search pattern kept offset) cut = (state.matched < cut.matched) × (cut.matched ≤ total)

-- a line number was performed no more often than there are lines; a pattern, than the number of the line matched last
abbrev pub IsRepeatedBy : (total : ℕ) → State → Target → Type 0
IsRepeatedBy total state (Number n) = state.repetition ≤ total
IsRepeatedBy total state (Search pattern kept offset) = state.repetition ≤ state.matched

abbrev pub IsRepeated : (total : ℕ) → State → List Operand → Type 0
IsRepeated total state [] = state.repetition ≡ 0
IsRepeated total state (operand ∷ operands) = IsRepeatedBy total state operand.target

-- the numbers of a state fit the lines that came in
pub record Fits (total : ℕ) (state : State) : Type 0 where
  pub some : 1 ≤ state.current
  pub current : state.current ≤ total + 2
  pub matched : state.matched ≤ total
  pub repeated : IsRepeated total state state.operands
