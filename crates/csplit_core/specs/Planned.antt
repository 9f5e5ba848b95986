-- The plan of a run, computed.
use Rattle.std.specs.{
  Prelude.{ℕ, ◌+◌, ◌-◌, ◌*◌, zero, suc, nat_lt, List, [], ◌∷◌, length, drop, Option, Some, None, if◌then◌else◌},
  Prelude.option_map,
}
use Rattle.operand_core.specs.Style.{Style}
use Rattle.csplit_core.specs.{
  Operand.{Target, Number, Search, Operand, Line, moved},
  Plan.{State, start, Step, Ending, used_up, missed, above, below, Plan, ended, after_steps, CutPoint, search_line},
  Plan.{past_last, state_after, step_of},
}

-- the first match among these lines; the first of them has this number
abbrev pub first_among : Operand → (number : ℕ) → List Line → Option ℕ
first_among operand number [] = None
first_among operand number (line ∷ lines) = if line.marks operand then Some number
    else first_among operand (suc number) lines

-- the first match, from a line on
abbrev pub first_match : Operand → List Line → (from : ℕ) → Option ℕ
first_match operand lines from = first_among operand from (drop (from - 1) lines)

-- what the next operand does: the run ends, or the operand makes a step and the run stands elsewhere
pub data PlannedAttempt : Type 0 where
  ends : Ending → PlannedAttempt
  goes : Step → State → PlannedAttempt

-- where the operand cuts; nowhere if it is a pattern that no line matches
abbrev pub cut_by : Style → List Line → State → Operand → Target → Option CutPoint
cut_by style lines state operand (Number n) =
    Some (record { matched = state.matched; line = n * (state.repetition + 1) })
cut_by style lines state operand (Search pattern kept offset) =
    option_map (λ line. record { matched = line; line = moved offset line })
    (first_match operand lines (search_line style.suppress state))

-- What the operand does that cuts here, or nowhere, if there are `total` lines. `operands` are those after it.
abbrev pub attempt_at : Style → (total : ℕ) → State → Operand → List Operand → Option CutPoint → PlannedAttempt
attempt_at style total state operand operands None = ends (missed operand state.repetition)
attempt_at style total state operand operands (Some cut) =
    if nat_lt cut.line state.current then ends (below operand state.repetition)
    else if nat_lt (total + past_last style operand.target) cut.line then ends (above operand state.repetition cut)
    else goes (step_of state operand cut) (state_after style.suppress operand operands state.repetition cut)

abbrev pub attempt_of : Style → List Line → State → List Operand → PlannedAttempt
attempt_of style lines state [] = ends used_up
attempt_of style lines state (operand ∷ operands) =
    attempt_at style (length lines) state operand operands (cut_by style lines state operand operand.target)

abbrev pub attempt : Style → List Line → State → PlannedAttempt
attempt style lines state = attempt_of style lines state state.operands

-- the plan from a state on, with at most this many steps
abbrev pub plan_within : (bound : ℕ) → Style → List Line → State → Plan
plan_within zero style lines state = ended state used_up
plan_within (suc bound) style lines state = elim (attempt style lines state) [
  | ends ending ↦ ended state ending
  | goes step next ↦ after_steps (step ∷ []) (plan_within bound style lines next)
]

-- The plan of these operands over these lines. An operand is performed at most once for each line and once more, so the
-- bound is enough.
abbrev pub plan : Style → List Operand → List Line → Plan
plan style operands lines = plan_within (length operands * (length lines + 1)) style lines (start operands)
