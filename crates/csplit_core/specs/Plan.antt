-- Where `csplit` cuts (POSIX.1-2017, XCU csplit). Lines are numbered from 1, and line 1 is the current line at first. A
-- step is one performance of an operand: it finds the line of a cut, and the lines from the current line to before the
-- cut are its section. With `suppress` the line at the cut belongs to no section.
use Rattle.std.specs.{
  Prelude.{◌≡◌, ℕ, ◌+◌, ◌-◌, ◌*◌, ◌<◌, ◌≤◌, suc, max, eqb, ◌&&◌, Bool, true, false, List, [], ◌∷◌, ◌++◌, length},
  Prelude.if◌then◌else◌,
}
use Rattle.operand_core.specs.Style.{Style}
use Rattle.csplit_core.specs.Operand.{Target, Number, Search, Operand, Line, is_match, moved, has_more}
-- where an operand cuts: the line that was matched last then, and the line of the cut
pub use Rattle.csplit_core.specs.declared.progress.CutPoint.{CutPoint}

-- where a run stands
pub record State : Type 0 where
  -- the operands that are left
  pub operands : List Operand
  -- how often the first operand that is left was performed
  pub repetition : ℕ
  -- the current line
  pub current : ℕ
  -- the line that the last pattern matched, 0 if no pattern was performed yet
  pub matched : ℕ

abbrev pub start : List Operand → State
start operands = record { operands = operands; repetition = 0; current = 1; matched = 0 }

pub record Step : Type 0 where
  pub operand : Operand
  pub repetition : ℕ
  -- the first line of the step's section
  pub current : ℕ
  -- the line that the last pattern matched; if the operand is a pattern, this step matched it
  pub matched : ℕ
  -- the line of the cut
  pub cut : ℕ

-- how the steps end
pub data Ending : Type 0 where
  -- no operand is left
  used_up : Ending
  -- the pattern of this operand, at this repetition, matches no line from its search line on
  missed : Operand → (repetition : ℕ) → Ending
  -- the cut is further than the operand may cut
  above : Operand → (repetition : ℕ) → CutPoint → Ending
  -- the cut is below the current line
  below : Operand → (repetition : ℕ) → Ending

pub record Plan : Type 0 where
  pub steps : List Step
  -- where the run stands after these steps, and why it ends there
  pub last : State
  pub ending : Ending

abbrev pub ended : State → Ending → Plan
ended state ending = record { steps = []; last = state; ending = ending }

-- a plan after these steps
abbrev pub after_steps : List Step → Plan → Plan
after_steps steps plan = record plan { steps = steps ++ plan.steps }

-- The line at which a search begins. It is line 1 if line 1 is current and no pattern was performed. Otherwise it is
-- one past the current line, or one past the line that was matched last, whichever is greater. With `suppress` the line
-- at the last cut, which is the line before the current line, stands in the current line's place. For example: `/x/`
-- matched line 5 and cut there, so the next pattern is looked for from line 6 on. If `/x/-2` matched line 5 and cut at
-- line 3, from line 6 on, too; if `/x/+2` cut at line 7, from line 8 on; and after the operand `10` from line 11 on.
abbrev pub search_line : (suppress : Bool) → State → ℕ
search_line true state = suc (max (state.current - 1) state.matched)
search_line false state = if eqb state.current 1 && eqb state.matched 0 then 1
    else suc (max state.current state.matched)

-- the line is the first match, from some line on
pub record IsFirst (operand : Operand) (lines : List Line) (from line : ℕ) : Type 0 where
  pub not_before : from ≤ line
  pub within : line ≤ length lines
  pub match : is_match operand lines line ≡ true
  pub first : (other : ℕ) → from ≤ other → other < line → is_match operand lines other ≡ false

-- no line matches, from this line on
abbrev pub MatchesNone : Operand → List Line → (from : ℕ) → Type 0
MatchesNone operand lines from = (line : ℕ) → from ≤ line → line ≤ length lines → is_match operand lines line ≡ false

-- The operand cuts here. A line number cuts at its multiples, one after another. A pattern cuts at an offset from its
-- first match.
abbrev pub CutsAt : Style → List Line → State → Operand → Target → CutPoint → Type 0
CutsAt style lines state operand (Number n) cut = (cut.matched ≡ state.matched)
    × (cut.line ≡ n * (state.repetition + 1))
CutsAt style lines state operand (Search pattern kept offset) cut =
    IsFirst operand lines (search_line style.suppress state) cut.matched × (cut.line ≡ moved offset cut.matched)

-- the first operand that is left cuts here; `operands` are those after it
pub record IsCut (style : Style) (lines : List Line) (state : State) (cut : CutPoint) : Type 0 where
  pub operand : Operand
  pub operands : List Operand
  pub are : state.operands ≡ operand ∷ operands
  pub cuts : CutsAt style lines state operand operand.target cut

-- How many lines past the last one a cut may stand: one, if it is the cut of a pattern and `one_past` is set. Then the
-- section after the cut is empty, as long as no more lines come.
abbrev pub past_last : Style → Target → ℕ
past_last style (Number n) = 0
past_last style (Search pattern kept offset) = if style.one_past then 1 else 0

-- the operand is a pattern, and no line matches it
abbrev pub Misses : Style → List Line → State → Operand → Target → Type 0
Misses style lines state operand (Number n) = ⊥
Misses style lines state operand (Search pattern kept offset) =
    MatchesNone operand lines (search_line style.suppress state)

-- the current line after a cut
abbrev pub line_after : (suppress : Bool) → (cut : ℕ) → ℕ
line_after true cut = suc cut
line_after false cut = cut

-- Where the run stands after this cut of the operand, which may be performed again. `operands` are those after it.
abbrev pub state_after : (suppress : Bool) → Operand → List Operand → (repetition : ℕ) → CutPoint → State
state_after suppress operand operands repetition cut = let again = has_more operand.times repetition in record {
  operands = if again then operand ∷ operands else operands;
  repetition = if again then repetition + 1 else 0;
  current = line_after suppress cut.line;
  matched = cut.matched;
}

abbrev pub step_of : State → Operand → CutPoint → Step
step_of state operand cut = record {
  operand = operand;
  repetition = state.repetition;
  current = state.current;
  matched = cut.matched;
  cut = cut.line;
}

-- The plan from a state on: each operand cuts in its turn, as often as it is to be performed, until one can't cut.
pub data Runs (style : Style) (lines : List Line) : State → Plan → Type 0 where
  is_used_up : (state : State) → state.operands ≡ [] → Runs style lines state (ended state used_up)
  misses : (state : State) (operand : Operand) (operands : List Operand) → state.operands ≡ operand ∷ operands
      → Misses style lines state operand operand.target
      → Runs style lines state (ended state (missed operand state.repetition))
  is_above : (state : State) (cut : CutPoint) (its : IsCut style lines state cut) → state.current ≤ cut.line
      → length lines + past_last style its.operand.target < cut.line
      → Runs style lines state (ended state (above its.operand state.repetition cut))
  is_below : (state : State) (cut : CutPoint) (its : IsCut style lines state cut) → cut.line < state.current
      → Runs style lines state (ended state (below its.operand state.repetition))
  cuts : (state : State) (cut : CutPoint) (its : IsCut style lines state cut) → state.current ≤ cut.line
      → cut.line ≤ length lines + past_last style its.operand.target → (plan : Plan)
      → Runs style lines (state_after style.suppress its.operand its.operands state.repetition cut) plan
      → Runs style lines state (after_steps (step_of state its.operand cut ∷ []) plan)
