-- What contracts see of the cutter of lines, and what its calls do.
use Rattle.std.specs.{
  Prelude.{◌≡◌, ◌⊎◌, ℕ, ◌+◌, ◌-◌, ◌≤◌, max, Bool, true, false, List, [], ◌∷◌, length, map, Option, Some, None},
  List.flat_map,
}
use Rattle.bre_core.specs.Pattern.{Pattern}
use Rattle.seg_core.specs.{Line.{line_count, after_lines, first_lines}, Window.Window}
use Rattle.engine_core.specs.{Draft.Draft, FileWriter.{WriterState, Writes, seen_writer, size_of}}
use Rattle.csplit_core.specs.{
  Input.{newline, all_lines},
  Measure.Fits,
  Operand.{Target, Number, Search, Operand, Line, is_kept, most_held},
  Output.{Style, manner_of, opening_of, file_in},
  Plan.{State, start, Step, Plan, after_steps, Runs},
  Planned.plan,
  Progress.{state_of, EndsHere, WillMove},
  Section.{section_of, lines_between, is_last_kept, settled_end, is_final, most_waiting, bytes_of},
  declared.{
    line_cutter.LineCutter.LineCutter,
    progress.{Progress.Progress, Attempt.{Attempt, TheVariants.{Above, Below, Cuts}}},
  },
}

pub record CutterState : Type 0 where
  pub operands : List Operand
  -- how sections are made into files
  pub style : Style
  pub writer : WriterState
  pub progress : Progress
  -- what the next operand did when it was last tried
  pub aim : Attempt
  -- how many lines came in
  pub lines : ℕ
  -- the lines that wait
  pub window : Window
  -- the pattern that is searched for
  pub sought : Option Pattern

-- what contracts see of a cutter of lines
abbrev pub seen : LineCutter → CutterState
seen cutter = record {
  operands = cutter.operands.now;
  style = cutter.style;
  writer = seen_writer cutter.writer;
  progress = cutter.progress;
  aim = cutter.aim;
  lines = cutter.lines;
  window = cutter.window;
  sought = cutter.matcher;
}

abbrev pub state_in : CutterState → State
state_in cutter = state_of cutter.operands cutter.progress

abbrev pub pattern_in : Target → Option Pattern
pattern_in (Number n) = None
pattern_in (Search pattern kept offset) = Some pattern

-- What the next operand says, if one is left: how many lines may wait (`most_next`), which pattern is searched for
-- (`pattern_next`), and whether the section is kept (`kept_next`).
abbrev pub most_next : Option Operand → ℕ
most_next None = 0
most_next (Some operand) = most_held operand.target

abbrev pub pattern_next : Option Operand → Option Pattern
pattern_next None = None
pattern_next (Some operand) = pattern_in operand.target

abbrev pub kept_next : Option Operand → Bool
kept_next None = true
kept_next (Some operand) = is_kept operand.target

abbrev pub next_of : List Operand → Option Operand
next_of [] = None
next_of (operand ∷ operands) = Some operand

abbrev pub most_by : List Operand → ℕ
most_by operands = most_next (next_of operands)

abbrev pub pattern_by : List Operand → Option Pattern
pattern_by operands = pattern_next (next_of operands)

abbrev pub kept_by : List Operand → Bool
kept_by operands = kept_next (next_of operands)

-- the last attempt was no cut; a cut that was further than it may be moves on once more lines are there
abbrev pub AimHolds : Style → List Operand → (lines : ℕ) → Progress → Attempt → Type 0
AimHolds style operands lines progress (Above cut) = WillMove style operands lines progress cut
AimHolds style operands lines progress (Cuts cut) = ⊥
AimHolds style operands lines progress aim = Unit {0}

-- the cutter's numbers are small, and it has what the next operand needs
pub record IsFit (cutter : CutterState) : Type 0 where
  pub fits : Fits cutter.lines (state_in cutter)
  pub most : cutter.window.most ≡ most_by (state_in cutter).operands
  pub delim : cutter.window.delim ≡ newline
  pub sought : cutter.sought ≡ pattern_by (state_in cutter).operands

pub record IsSound (cutter : CutterState) : Type 0 where
  pub fit : IsFit cutter
  pub aim : AimHolds cutter.style cutter.operands cutter.lines cutter.progress cutter.aim

-- the greater of two counts: the lines that came in; the bytes of the open file and of the lines that wait
abbrev pub load : CutterState → ℕ
load cutter = max cutter.lines (size_of cutter.writer.current + length cutter.window.held)

-- the text from a line on; lines are counted from 1
abbrev pub text_from : ℕ → List ℕ → List ℕ
text_from line x = after_lines newline (line - 1) x

-- a plan from this state on is the rest of a plan from the start
abbrev pub Leads : Style → List Line → List Operand → List Step → State → Type 0
Leads style lines operands steps state = (rest : Plan) → Runs style lines state rest
    → Runs style lines (start operands) (after_steps steps rest)

-- the files of these steps' sections, and the open section with these bytes
abbrev pub draft_by : Style → List Line → List Step → Bool → List ℕ → Draft
draft_by style lines steps kept bytes = record {
  ended = flat_map (file_in style) (map (section_of lines) steps);
  opening = opening_of style kept;
  bytes = bytes;
}

-- what is settled of complete lines, as files
abbrev pub settled_draft : Style → List Operand → List Line → Draft
settled_draft style operands lines = let p = plan style operands lines in
    draft_by style lines p.steps (is_last_kept p.ending)
    (bytes_of (lines_between p.last.current (settled_end (length lines) p.ending) lines))

-- The lines x came in. Of the lines from the current line on, the first ones are written, or skipped with their
-- section, and `left` are the others.
pub record IsAt (cutter : CutterState) (x left : List ℕ) : Type 0 where
  pub steps : List Step
  pub leads : Leads cutter.style (all_lines x) cutter.operands steps (state_in cutter)
  pub counted : cutter.lines ≡ line_count newline x
  -- how many lines went to the open section, and their bytes
  pub taken : ℕ
  pub written : List ℕ
  pub few : taken ≤ line_count newline x + 1 - cutter.progress.current
  pub written_is : written ≡ first_lines newline taken (text_from cutter.progress.current x)
  pub left_is : left ≡ text_from (cutter.progress.current + taken) x
  pub writes : Writes (manner_of cutter.style) cutter.writer
      (draft_by cutter.style (all_lines x) steps (kept_by (state_in cutter).operands) written)

-- the plan ends where the cutter stands, as its aim says
abbrev pub EndsNow : CutterState → List ℕ → Type 0
EndsNow cutter x = EndsHere cutter.style (all_lines x) (state_in cutter) cutter.aim

-- the cutter may have been given the lines x, it holds those that wait, and later lines still go somewhere
pub record IsLive (cutter : CutterState) (x : List ℕ) : Type 0 where
  pub at : IsAt cutter x cutter.window.held
  pub ends : EndsNow cutter x
  pub live : is_final ends.ending ≡ false
  -- all but the last lines that may wait are written
  pub settled : at.taken ≡ cutter.lines + 1 - cutter.progress.current - most_waiting ends.ending

-- the cutter was given the lines x, and what follows them goes nowhere
pub record IsPast (cutter : CutterState) (x : List ℕ) : Type 0 where
  pub aim : cutter.aim ≡ Below
  pub past : is_final (plan cutter.style cutter.operands (all_lines x)).ending ≡ true
  pub last : state_in cutter ≡ (plan cutter.style cutter.operands (all_lines x)).last
  pub none : cutter.window.held ≡ []
  pub writes : Writes (manner_of cutter.style) cutter.writer
      (settled_draft cutter.style cutter.operands (all_lines x))

-- x may be the lines that came in
abbrev pub Stands : CutterState → List ℕ → Type 0
Stands cutter x = IsLive cutter x ⊎ IsPast cutter x
