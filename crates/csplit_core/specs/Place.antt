-- Where a line goes, and which lines continuations put into different places.
use Rattle.std.specs.{
  Prelude.{◌≡◌, eqb, ℕ, ◌+◌, ◌≤◌, nat_lt, nat_le, ◌&&◌, Bool, true, false, List, [], ◌∷◌, get_or, length, map},
  Prelude.if◌then◌else◌,
}
use Rattle.engine_core.specs.Agreed.{DifferOn}
use Rattle.operand_core.specs.Style.{Style}
use Rattle.csplit_core.specs.{
  Agreed.CanCome,
  Operand.{Operand, Line},
  Plan.{Step, Ending, Plan},
  Planned.plan,
  Section.{Section, whole_end, whole_sections, is_final},
}

-- Where a line goes: into a section, perhaps a skipped one; or it is left out at a cut; or it goes nowhere, since the
-- run ends with a cut below the current line. Sections and cuts are counted from 0.
pub data Place : Type 0 where
  in_section : ℕ → Place
  left_out : ℕ → Place
  nowhere : Place

-- the place of a line, by the steps that are left; the next section has the number `index`, and there are `total` lines
abbrev pub place_from : (suppress : Bool) → (total index : ℕ) → List Step → Ending → (line : ℕ) → Place
place_from suppress total index [] ending line = if nat_lt line (whole_end total ending) then in_section index
    else nowhere
place_from suppress total index (step ∷ steps) ending line =
    if nat_lt line step.cut then in_section index
    else if suppress && nat_le line step.cut then left_out index
    else place_from suppress total (index + 1) steps ending line

-- the place of the line of this number, if the input ends after these lines
abbrev pub place_of : Style → List Operand → List Line → (line : ℕ) → Place
place_of style operands lines line =
    place_from style.suppress (length lines) 0 (plan style operands lines).steps (plan style operands lines).ending line

-- The lines that wait are the last of x, and exactly those on which continuations differ. `places x line` says where
-- the line of this number goes if the input is x.
abbrev pub IsUndecided : (List Line → ℕ → Place) → List Line → List Line → Type 0
IsUndecided places = DifferOn CanCome (λ x i at. places x (i + 1) ≡ at)

abbrev pub is_in : (section : ℕ) → Place → Bool
is_in section (in_section other) = eqb section other
is_in section place = false

-- those of the lines that go into a section; the first line of the list has the number `number`
abbrev pub lines_into : (section : ℕ) → (ℕ → Place) → (number : ℕ) → List Line → List Line
lines_into section places number [] = []
lines_into section places number (line ∷ lines) = if is_in section (places number)
    then line ∷ lines_into section places (number + 1) lines else lines_into section places (number + 1) lines

-- The places are right if the input ends after these lines.
pub record ArePlaced (places : ℕ → Place) (suppress : Bool) (plan : Plan) (lines : List Line) : Type 0 where
  -- each section has exactly the lines that go into it, in their order; no line goes into a section that isn't there
  pub sections : (section : ℕ)
      → get_or (map (λ (one : Section). one.lines) (whole_sections lines plan)) section []
      ≡ lines_into section places 1 lines
  -- sections follow one another: no line goes into an earlier section than a line before it
  pub order : (line later section other : ℕ) → line ≤ later → places line ≡ in_section section
      → places later ≡ in_section other → section ≤ other
  -- a line that is left out is the line of that cut, and lines at cuts are left out
  pub cuts : (line cut : ℕ) → 1 ≤ line → places line ≡ left_out cut → (suppress ≡ true)
      × (get_or (map (λ (step : Step). step.cut) plan.steps) cut 0 ≡ line)
  -- a line that goes nowhere is the current line or a later one, and the last cut is below the current line
  pub rest : (line : ℕ) → 1 ≤ line → line ≤ length lines → places line ≡ nowhere → (is_final plan.ending ≡ true)
      × (plan.last.current ≤ line)
