-- What contracts see of where a run stands, and of what the next operand does.
use Rattle.std.specs.Prelude.{◌≡◌, ℕ, ◌-◌, ◌<◌, ◌≤◌, ◌+◌, ◌^◌, min, List, ◌∷◌, length, drop}
use Rattle.operand_core.specs.Style.{Style}
use Rattle.csplit_core.specs.{
  Operand.{Operand, Line},
  Plan.{State, Ending, used_up, missed, above, below, ended, Runs, past_last, CutPoint},
  Measure.Moves,
  declared.progress.{Progress.Progress, Attempt.{Attempt, TheVariants.{UsedUp, Missed, Above, Below}}},
}

abbrev pub state_of : List Operand → Progress → State
state_of operands progress = record {
  operands = drop progress.done operands;
  repetition = progress.repetition;
  current = progress.current;
  matched = progress.matched;
}

-- a cut that is further than it may be now moves on once more lines are there
pub record WillMove (style : Style) (operands : List Operand) (total : ℕ) (progress : Progress) (at : CutPoint) :
    Type 0 where
  pub operand : Operand
  pub rest : List Operand
  pub within : progress.done < length operands
  pub left : drop progress.done operands ≡ operand ∷ rest
  pub line : ℕ
  pub moves : Moves total (state_of operands progress) operand.target (record at { line = line })
  pub line_is : at.line ≡ min line (2 ^ 64 - 1)
  pub matched_within : at.matched ≤ total
  pub from : progress.current ≤ at.line
  pub above : total + past_last style operand.target < at.line

-- how the plan ends if an attempt cuts nothing
abbrev pub AimsAt : Attempt → Ending → Type 0
AimsAt UsedUp used_up = Unit {0}
AimsAt Missed (missed operand repetition) = Unit {0}
AimsAt (Above at) (above operand repetition cut) = (at.matched ≡ cut.matched) × (at.line ≡ min cut.line (2 ^ 64 - 1))
AimsAt Below (below operand repetition) = Unit {0}
AimsAt attempt ending = ⊥

-- The plan ends at this state, as the attempt says.
pub record EndsHere (style : Style) (lines : List Line) (state : State) (attempt : Attempt) : Type 0 where
  pub ending : Ending
  pub runs : Runs style lines state (ended state ending)
  pub aims : AimsAt attempt ending
