-- What `csplit` makes of an input (POSIX.1-2017, XCU csplit).
use Rattle.std.specs.Prelude.{ℕ, true, false, not, ◌&&◌, List, [], ◌++◌, Option, Some, None, if◌then◌else◌}
use Rattle.engine_core.specs.{Written.Written, Work.{Work, Means}}
use Rattle.ports_core.specs.declared.verdict.Verdict.{Verdict, TheVariants.{NoMatch, Range}}
use Rattle.csplit_core.specs.{
  Operand.{Operand, Line, is_endless, is_number},
  Plan.{Ending, used_up, missed, above, below},
  Planned.plan,
  Section.{settled_sections, whole_sections, bytes_of, is_final, waiting_lines},
  Output.{Style, part_of, sizes_wanted},
  Input.{all_lines, complete_lines, open_line},
}

-- what is written of complete lines if more may follow; `whole_of` is what is written if they are all lines
abbrev pub settled_of : Style → List Operand → List Line → Written
settled_of style operands lines = part_of style (settled_sections lines (plan style operands lines))

abbrev pub whole_of : Style → List Operand → List Line → Written
whole_of style operands lines = part_of style (whole_sections lines (plan style operands lines))

abbrev pub settled_by : Style → List Operand → List ℕ → Written
settled_by style operands x = settled_of style operands (complete_lines x)

abbrev pub whole_by : Style → List Operand → List ℕ → Written
whole_by style operands x = whole_of style operands (all_lines x)

-- The verdict with which the plan ends, if it ends with one. An operand that is repeated without end ends well if its
-- pattern matches no line, or if its line number is above the last line.
abbrev pub verdict_of : Ending → Option Verdict
verdict_of used_up = None
verdict_of (missed operand repetition) = if is_endless operand.times then None
    else Some (NoMatch operand.index repetition)
verdict_of (above operand repetition cut) = if is_endless operand.times && is_number operand.target then None
    else Some (Range operand.index repetition)
verdict_of (below operand repetition) = Some (Range operand.index repetition)

abbrev pub verdict_by : Style → List Operand → List ℕ → Option Verdict
verdict_by style operands x = verdict_of (plan style operands (all_lines x)).ending

-- The means of `csplit`. It writes sizes to standard output unless they aren't wanted. As it takes in a piece it may
-- open files, and may need memory for their names and for bytes that wait. The same is true of the end: a last line
-- without its newline is one more line then, and may end several sections.
abbrev pub csplit_means : Style → Means
csplit_means style = record {
  output = sizes_wanted style;
  files = true;
  feeding = record { memory = true; files = true };
  closing = record { memory = true; files = true };
}

-- the bytes that wait: the lines that wait and the line that lacks its newline; none once later input goes nowhere
abbrev pub waiting : Style → List Operand → List ℕ → List ℕ
waiting style operands x = let lines = complete_lines x in let p = plan style operands lines in
    if is_final p.ending then [] else bytes_of (waiting_lines lines p) ++ open_line x

-- What `csplit` makes of an input. The output is never complete before the end, where the last size is written.
abbrev pub csplit_work : Style → List Operand → Work
csplit_work style operands = record {
  settled = settled_by style operands;
  whole = whole_by style operands;
  waiting = waiting style operands;
  is_complete = λ x. false;
  verdict = verdict_by style operands;
  clears = not style.keep;
  means = csplit_means style;
  ahead = 0;
}
