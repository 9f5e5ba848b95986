-- What all continuations agree on. A continuation is what may still come: complete lines, perhaps none. Lines bear
-- marks, one for each operand. The lines that came in have given marks, and the lines that follow may have any.
use Rattle.std.specs.Prelude.{◌<◌, List, [], ◌∷◌, All, if◌then◌else◌}
use Rattle.seg_core.specs.Line.{IsComplete}
use Rattle.engine_core.specs.{Agreed.AgreeOn, Written.IsBeginning}
use Rattle.operand_core.specs.Style.{Style}
use Rattle.csplit_core.specs.{
  Input.newline,
  Operand.{Operand, Line},
  Planned.plan,
  Section.{Section, whole_sections, settled_sections},
}

-- lines that may still come: each has bytes, and ends with a newline and has no other
abbrev pub CanCome : List Line → Type 0
CanCome y = All (λ line. All (λ byte. byte < 256) line.text × IsComplete newline line.text) y

-- the lines of each section that is kept, also of empty sections
abbrev pub kept_lines : List Section → List (List Line)
kept_lines [] = []
kept_lines (section ∷ sections) = if section.is_kept then section.lines ∷ kept_lines sections else kept_lines sections

-- the outputs if the input ends after these lines; `settled_outputs` is what is written of them if more lines may
-- follow
abbrev pub whole_outputs : Style → List Operand → List Line → List (List Line)
whole_outputs style operands lines = kept_lines (whole_sections lines (plan style operands lines))

abbrev pub settled_outputs : Style → List Operand → List Line → List (List Line)
settled_outputs style operands lines = kept_lines (settled_sections lines (plan style operands lines))

-- each output of the second list begins with the lines at its place in the first; the second list may have more
abbrev pub AreFronts : List (List Line) → List (List Line) → Type 0
AreFronts [] wholes = Unit {0}
AreFronts (front ∷ fronts) [] = ⊥
AreFronts (front ∷ fronts) (whole ∷ wholes) = IsBeginning front whole × AreFronts fronts wholes

-- the most that the outputs of all continuations of x have in common
abbrev pub IsAgreed : (List Line → List (List Line)) → List Line → List (List Line) → Type 0
IsAgreed = AgreeOn CanCome AreFronts (λ outputs. outputs)
