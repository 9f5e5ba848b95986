-- The sections of a plan: one for each step, and one where the plan ends.
use Rattle.std.specs.{
  Prelude.{ℕ, ◌-◌, suc, Bool, true, false, List, [], ◌∷◌, ◌++◌, length, map, take, drop, if◌then◌else◌},
}
use Rattle.seg_core.specs.Line.{joined}
use Rattle.csplit_core.specs.{
  Operand.{Line, is_kept, most_held},
  Plan.{Step, Ending, used_up, missed, above, below, Plan},
}

pub record Section : Type 0 where
  -- whether the section is kept, and not skipped
  pub is_kept : Bool
  -- whether all of the section's lines came in
  pub is_closed : Bool
  pub lines : List Line

abbrev pub section : (kept closed : Bool) → List Line → Section
section kept closed lines = record { is_kept = kept; is_closed = closed; lines = lines }

-- the lines from number `first` on that stand before number `end`
abbrev pub lines_between : (first end : ℕ) → List Line → List Line
lines_between first end lines = take (end - first) (drop (first - 1) lines)

abbrev pub section_of : List Line → Step → Section
section_of lines step = section (is_kept step.operand.target) true (lines_between step.current step.cut lines)

-- whether the last section is kept: the rest after all operands is, and otherwise the operand decides at which the plan
-- ends
abbrev pub is_last_kept : Ending → Bool
is_last_kept used_up = true
is_last_kept (missed operand repetition) = is_kept operand.target
is_last_kept (above operand repetition cut) = is_kept operand.target
is_last_kept (below operand repetition) = is_kept operand.target

-- The line before which the last section ends, if the input ends after `total` lines. The section has all lines that
-- are left, or none if the cut is below the current line. Lines are numbered from 1, so no line stands before line 0.
abbrev pub whole_end : (total : ℕ) → Ending → ℕ
whole_end total (below operand repetition) = 0
whole_end total ending = suc total

-- how many of the last complete lines may wait: if no line matched yet, as many as the offset goes back
abbrev pub most_waiting : Ending → ℕ
most_waiting (missed operand repetition) = most_held operand.target
most_waiting ending = 0

-- The line before which the settled lines of the last section end, whatever follows the `total` lines that came in.
abbrev pub settled_end : (total : ℕ) → Ending → ℕ
settled_end total ending = whole_end total ending - most_waiting ending

-- the sections of the steps, and the last section, which ends before the line of number `end`
abbrev pub sections_to : (closed : Bool) → (end : ℕ) → List Line → Plan → List Section
sections_to closed end lines plan = map (section_of lines) plan.steps
    ++ section (is_last_kept plan.ending) closed (lines_between plan.last.current end lines) ∷ []

-- the sections if the input ends after these lines
abbrev pub whole_sections : List Line → Plan → List Section
whole_sections lines plan = sections_to true (whole_end (length lines) plan.ending) lines plan

-- the sections as far as they are settled, if more lines may follow
abbrev pub settled_sections : List Line → Plan → List Section
settled_sections lines plan = sections_to false (settled_end (length lines) plan.ending) lines plan

-- whether the cut is below the current line, so that lines that follow belong to no section
abbrev pub is_final : Ending → Bool
is_final (below operand repetition) = true
is_final ending = false

-- the complete lines that wait: those after what is settled of the last section
abbrev pub waiting_lines : List Line → Plan → List Line
waiting_lines lines plan = if is_final plan.ending then []
    else drop (settled_end (length lines) plan.ending - plan.last.current) (drop (plan.last.current - 1) lines)

abbrev pub bytes_of : List Line → List ℕ
bytes_of lines = joined (map (λ (line : Line). line.text) lines)

-- the lines of all sections, one after another
abbrev pub lines_in : List Section → List Line
lines_in [] = []
lines_in (section ∷ sections) = section.lines ++ lines_in sections
