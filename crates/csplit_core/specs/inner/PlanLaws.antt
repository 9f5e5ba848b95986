-- What private calls say: the plan that is computed is the only plan, and what sections are as more lines come.
use Rattle.std.specs.{
  Prelude.{◌≡◌, ℕ, suc, ◌+◌, ◌<◌, true, false, List, length, Option, Some, None, ◌-◌, ◌*◌, Bool, [], ◌∷◌, ◌≤◌},
  Prelude.◌++◌,
}
use Rattle.operand_core.specs.Style.{Style}
use Rattle.csplit_core.specs.{
  Operand.{Operand, Line, Target, Number, Search, is_kept, most_held},
  Plan.{IsFirst, MatchesNone, State, Step, Ending, used_up, missed, above, below, Plan, ended, after_steps, CutPoint},
  Plan.{CutsAt, Misses, past_last, Runs},
  Measure.Moves,
  Planned.{PlannedAttempt, ends, goes, attempt, plan_within, plan},
  Section.Section,
}

abbrev pub MatchesAs : Operand → List Line → ℕ → Option ℕ → Type 0
MatchesAs operand lines from None = MatchesNone operand lines from
MatchesAs operand lines from (Some line) = IsFirst operand lines from line

-- the operand cuts here, or its pattern matches no line
abbrev pub CutsAs : Style → List Line → State → Operand → Target → Option CutPoint → Type 0
CutsAs style lines state operand target None = Misses style lines state operand target
CutsAs style lines state operand target (Some cut) = CutsAt style lines state operand target cut

-- the plan from a state on, by the attempt that was made there
abbrev pub after : ℕ → Style → List Line → State → PlannedAttempt → Plan
after bound style lines state attempt = elim attempt [
  | ends ending ↦ ended state ending
  | goes step next ↦ after_steps (step ∷ []) (plan_within bound style lines next)
]

-- how many steps the operand can still make, besides one last step
abbrev pub left_of : ℕ → State → Target → ℕ
left_of total state (Number n) = total - state.repetition
left_of total state (Search pattern kept offset) = total - state.matched

abbrev pub needed_by : ℕ → State → List Operand → ℕ
needed_by total state [] = 0
needed_by total state (operand ∷ operands) = length operands * (total + 1) + left_of total state operand.target + 1

abbrev pub needed : ℕ → State → ℕ
needed total state = needed_by total state state.operands

-- a cut of this operand moves on, and stands within `total` lines or one past the last
pub record MovesWithin (style : Style) (total : ℕ) (state : State) (target : Target) (cut : CutPoint) : Type 0 where
  pub moves : Moves total state target cut
  pub some : 1 ≤ cut.line
  pub within : cut.line ≤ total + past_last style target

-- What is true at the end of a plan

abbrev pub EndsAs : Style → List Line → State → Ending → Type 0
EndsAs style lines state used_up = state.operands ≡ []
EndsAs style lines state (missed operand repetition) = (operands : List Operand)
    × (state.operands ≡ operand ∷ operands) × Misses style lines state operand operand.target
    × (repetition ≡ state.repetition)
EndsAs style lines state (above operand repetition cut) = (operands : List Operand)
    × (state.operands ≡ operand ∷ operands) × CutsAt style lines state operand operand.target cut
    × (state.current ≤ cut.line) × (length lines + past_last style operand.target < cut.line)
    × (repetition ≡ state.repetition)
EndsAs style lines state (below operand repetition) = (operands : List Operand) × (cut : CutPoint)
    × (state.operands ≡ operand ∷ operands) × CutsAt style lines state operand operand.target cut
    × (cut.line < state.current) × (repetition ≡ state.repetition)

-- what is settled ends no later than any cut of the next operand; if that operand misses, the lines that may wait come
-- after it
abbrev pub CutsFrom : Style → List Line → State → (past : ℕ) → (kept : Bool) → List Operand → Type 0
CutsFrom style lines state past kept [] = kept ≡ true
CutsFrom style lines state past kept (operand ∷ operands) = (kept ≡ is_kept operand.target)
    × ((cut : CutPoint) → CutsAt style lines state operand operand.target cut → past ≤ cut.line)
    × (Misses style lines state operand operand.target → past ≤ suc (length lines) - most_held operand.target)

-- the steps stand within the lines; only a cut may stand one past the last line
abbrev pub AreWithin : ℕ → List Step → Type 0
AreWithin total [] = Unit {0}
AreWithin total (step ∷ steps) = (1 ≤ step.current) × (step.current ≤ step.cut) × (step.cut ≤ total + 1)
    × AreWithin total steps

-- The open section goes on

pub record Next (begun : Section) (sections : List Section) : Type 0 where
  pub other : Section
  pub more : List Section
  pub are : sections ≡ other ∷ more
  pub kept : begun.is_kept ≡ other.is_kept
  pub rest : List Line
  pub lines : other.lines ≡ begun.lines ++ rest

-- Sections grow: all sections but the last stay, and the last, which is open, goes on

pub record Grow (low high : List Section) : Type 0 where
  pub front : List Section
  pub begun : Section
  pub is_open : begun.is_closed ≡ false
  pub low_is : low ≡ front ++ begun ∷ []
  pub after : List Section
  pub high_is : high ≡ front ++ after
  pub next : Next begun after

-- a plan over more lines goes on from the state at which the plan over the first lines ends
pub record GoesOn (style : Style) (operands : List Operand) (a b : List Line) : Type 0 where
  pub more : Plan
  pub rest : Runs style (a ++ b) (plan style operands a).last more
  pub is : plan style operands (a ++ b) ≡ after_steps (plan style operands a).steps more
