-- What private calls say of where a run stands, of the cutter of lines, and of the stage that takes in bytes.
use Rattle.std.specs.{
  Prelude.{◌≡◌, ℕ, ◌<◌, ◌≤◌, ◌-◌, Bool, false, List, ◌∷◌, length, drop, ◌⊎◌, ◌+◌, true, [], ◌++◌, take},
  Prelude.{get_or, Option, Some, None, IfNone, IfSome, IfOk, Result, Ok, Err, ◌≢◌, OnOk, IsTrue, if◌then◌else◌},
}
use Rattle.csplit_core.specs.{
  Operand.{Operand, Line, is_match},
  Plan.{State, IsCut, search_line, line_after, state_after, past_last, Plan, CutPoint},
  Measure.Moves,
  declared.{
    progress.{Progress.Progress, Attempt.{Attempt, TheVariants.{UsedUp, Missed, Above, Below, Cuts}}},
    line_cutter.{LineCutter.LineCutter, Passed.Passed, Stretch.Stretch},
  },
  Progress.{state_of, WillMove, EndsHere, AimsAt},
  Csplit.{settled_of, whole_of, verdict_of},
  Input.{newline, without_newline, marked, all_lines, open_line},
  Output.{Style, manner_of, naming_of, sizes_wanted},
  Planned.plan,
  inner.PlanLaws.needed,
  Section.is_final,
  Cutter.{CutterState, AimHolds, most_by, pattern_by, seen, state_in, next_of, kept_by, IsFit, IsSound, load},
  Cutter.{draft_by, IsAt, EndsNow, Stands},
  CsplitState.{CsplitState, terms, whole_lines},
}
use Rattle.bre_core.specs.{Pattern.Pattern, Search.contains}
use Rattle.seg_core.specs.{
  Line.{lines_of, line_count, ends_with, delimiters, first_lines, but_last_lines},
  inner.Lines.last_lines,
}
use Rattle.engine_core.specs.{
  Written.{Written, Begins, nothing},
  Swept.{Removes, HasNoFiles},
  declared.file_writer.{Keeps.TheVariants.All, Tells.{Tells, TheVariants.{Nothing, Sizes}}},
  Draft.{Draft, draft_part},
  FileWriter.{WriterState, OwnsFiles, IsManner, IsReady, Breaks, manner_in, size_of, Leaves, Reaches, new_writer},
  FileWriter.paused,
  InTurn.fault_in,
  Engine.Sweeps,
}
use Rattle.ports_core.specs.{
  Slot.{Effect, Slot, effect, is_writable},
  declared.{fault.Fault.{Fault, TheVariants.Memory}, verdict.Verdict.Verdict},
}
use Rattle.ports_core.specs.declared.fault.Fault.TheVariants as fault_is

abbrev pub suppress_in : CutterState → Bool
suppress_in cutter = cutter.style.suppress

-- how many lines past the last one the next cut may stand, if an operand is left
abbrev pub past_next : Style → Option Operand → ℕ
past_next style None = 0
past_next style (Some operand) = past_last style operand.target

abbrev pub past_by : Style → List Operand → ℕ
past_by style operands = past_next style (next_of operands)

-- There are `total` lines. `found` says whether the next operand matches the last line, if its search reaches that
-- line. The operand matches no line from the beginning of its search up to before the last line.
pub record AreSeen (suppress : Bool) (lines : List Line) (total : ℕ) (state : State) (found : Bool) : Type 0 where
  pub count : length lines ≡ total
  pub last : (operand : Operand) (operands : List Operand) → state.operands ≡ operand ∷ operands
      → search_line suppress state ≤ total → is_match operand lines total ≡ found
  pub others : (operand : Operand) (operands : List Operand) → state.operands ≡ operand ∷ operands → (other : ℕ)
      → search_line suppress state ≤ other → other < total → is_match operand lines other ≡ false

-- the next operand cuts at this line, which is no further than the operand may cut
pub record GoesPast (style : Style) (lines : List Line) (state : State) (cut : CutPoint) : Type 0 where
  pub its : IsCut style lines state cut
  pub from : state.current ≤ cut.line
  pub within : cut.line ≤ length lines + past_last style its.operand.target

-- an attempt agrees with the plan: the plan ends here, or has one more step
abbrev pub AgreesWithPlan : Style → List Line → State → Attempt → Type 0
AgreesWithPlan style lines state (Cuts cut) = GoesPast style lines state cut
AgreesWithPlan style lines state attempt = EndsHere style lines state attempt

-- where a cut falls, if it may stand at the line `most` at most
abbrev pub FallsAt : (most current : ℕ) → CutPoint → Attempt → Type 0
FallsAt most current cut (Above at) = (at ≡ cut) × (current ≤ cut.line) × (most < cut.line)
FallsAt most current cut Below = cut.line < current
FallsAt most current cut (Cuts at) = (at ≡ cut) × (current ≤ cut.line) × (cut.line ≤ most)
FallsAt most current cut attempt = ⊥

-- The next operand cuts at this line, which is no further than the operand may cut.
pub record CutMoves (style : Style) (operands : List Operand) (total : ℕ) (progress : Progress) (cut : CutPoint) :
    Type 0 where
  pub operand : Operand
  pub rest : List Operand
  pub some : progress.done < length operands
  pub left : drop progress.done operands ≡ operand ∷ rest
  pub moves : Moves total (state_of operands progress) operand.target cut
  pub matched : cut.matched ≤ total
  pub from : progress.current ≤ cut.line
  pub within : cut.line ≤ total + past_last style operand.target

-- A cut moves on, so that a run makes no more steps than `needed` says. A cut that is further than it may be will move
-- on.
abbrev pub MovesOn : Style → List Operand → (total : ℕ) → Progress → Attempt → Type 0
MovesOn style operands total progress (Above cut) = WillMove style operands total progress cut
MovesOn style operands total progress (Cuts cut) = CutMoves style operands total progress cut
MovesOn style operands total progress attempt = Unit {0}

-- a text of complete lines
abbrev pub IsWhole : List ℕ → Type 0
IsWhole x = (x ≡ []) ⊎ (ends_with newline x ≡ true)

-- a text may follow this one: this text has complete lines, or nothing follows
abbrev pub Joins : List ℕ → List ℕ → Type 0
Joins x t = IsWhole x ⊎ (t ≡ [])

-- a text of one line, which may lack its newline
abbrev pub IsLine : List ℕ → Type 0
IsLine line = lines_of newline line ≡ line ∷ []

abbrev pub settled_part : CutterState → List ℕ → Written
settled_part cutter x = settled_of cutter.style cutter.operands (all_lines x)

-- a cutter without its aim and the lines that wait: what sections depend on is left
abbrev pub bare : CutterState → CutterState
bare cutter = record cutter { aim = UsedUp; window = record { most = 0; delim = newline; held = [] } }

-- the files of the sections that are written; `part_at` is their part
abbrev pub draft_at : {cutter : CutterState} {x left : List ℕ} → IsAt cutter x left → Draft
draft_at {cutter} {x} at = draft_by cutter.style (all_lines x) at.steps (kept_by (state_in cutter).operands) at.written

abbrev pub part_at : {cutter : CutterState} {x left : List ℕ} → IsAt cutter x left → Written
part_at {cutter} at = draft_part (manner_of cutter.style) (draft_at at)

abbrev pub plan_in : CutterState → List ℕ → Plan
plan_in cutter x = plan cutter.style cutter.operands (all_lines x)

-- the next operand cuts at this point, if the lines x came in
abbrev pub CutsIn : CutterState → List ℕ → CutPoint → Type 0
CutsIn cutter x cut = GoesPast cutter.style (all_lines x) (state_in cutter) cut

-- the cutter's state and aim are those with which the plan over x ends
pub record IsJudged (cutter : CutterState) (x : List ℕ) : Type 0 where
  pub last : state_in cutter ≡ (plan_in cutter x).last
  pub aims : AimsAt cutter.aim (plan_in cutter x).ending

-- the cutter's last attempt was no cut, and a cut that was further than it may be will move on
abbrev pub IsAimed : CutterState → Type 0
IsAimed cutter = AimHolds cutter.style cutter.operands cutter.lines cutter.progress cutter.aim

-- What any call leaves of a cutter with these operands, style and writer, and of its outputs.
pub record KeepsBy (given : List Operand) (made : Style) (before : WriterState) (next : CutterState)
    (old new : List Slot) (fault : Option Fault) : Type 0 where
  pub operands : next.operands ≡ given
  pub style : next.style ≡ made
  pub writer : Leaves before next.writer old new fault

abbrev pub Keeps : CutterState → CutterState → List Slot → List Slot → Option Fault → Type 0
Keeps cutter = KeepsBy cutter.operands cutter.style cutter.writer

-- outputs that had one part get another, or a fault stopped that
abbrev pub Puts : (cutter next : CutterState) → (low high : Written) → Effect → Option Fault → Type 0
Puts cutter next = Reaches (sizes_wanted cutter.style) cutter.writer next.writer

-- these bytes came in
pub record Took (cutter : CutterState) (text : List ℕ) (next : CutterState) : Type 0 where
  pub stands : (x : List ℕ) → IsWhole x → Stands cutter x → Stands next (x ++ text)
  pub sound : IsSound next
  pub size : load next ≤ load cutter + length text

-- These bytes came in, and what is settled with them is written; or a fault came among them.
pub record Takes (visible : Bool) (cutter : CutterState) (text : List ℕ) (old new : List Slot) (next : CutterState)
    (fault : Option Fault) : Type 0 where
  pub keeps : Keeps cutter next old new fault
  pub reaches : (x : List ℕ) → IsWhole x → Stands cutter x
      → Puts cutter next (settled_part cutter x) (settled_part cutter (x ++ text)) (effect visible old new) fault
  pub went : IfNone fault (Took cutter text next)

-- The plan over x ends at the cutter's state. What is written of the open section is settled.
pub record Arrives (cutter : CutterState) {x left : List ℕ} (at : IsAt (bare cutter) x left) : Type 0 where
  pub ends : EndsNow cutter x
  pub low : is_final ends.ending ≡ true → at.taken ≡ 0
  pub enough : (at.taken ≡ 0) ⊎ (cutter.window.most ≤ line_count newline left)

-- The lines up to x came in, and outputs have `low` and what came since. If later lines still go somewhere, the lines
-- that wait and those of `pending` are left, and none of them is written.
pub record Comes (visible : Bool) (cutter : CutterState) (low : Written) (old new : List Slot) (next : CutterState)
    (x pending : List ℕ) : Type 0 where
  pub left : List ℕ
  pub left_is : next.aim ≢ Below → left ≡ next.window.held ++ pending
  pub at : IsAt (bare next) x left
  pub arrives : Arrives next at
  pub grows : Begins low (part_at at)
  pub reaches : Puts cutter next low (part_at at) (effect visible old new) None

-- These bytes came in. The lines that wait are those that are held and, after them, those of `pending`.
pub record Waits (visible : Bool) (cutter : CutterState) (text : List ℕ) (old new : List Slot) (next : CutterState)
    (pending : List ℕ) : Type 0 where
  pub keeps : Keeps cutter next old new None
  pub sound : IsSound next
  pub lines : next.lines ≤ cutter.lines + length text
  pub size : size_of next.writer.current + length next.window.held + length pending
      ≤ size_of cutter.writer.current + length cutter.window.held + length text
  pub comes : (x : List ℕ) → IsWhole x → Stands cutter x
      → Comes visible cutter (settled_part cutter x) old new next (x ++ text) pending

-- What is settled is written, and the lines that still wait are held; or a fault came. If the last cut is below the
-- current line, more lines may follow.
abbrev pub Settles : Bool → CutterState → (pending : List ℕ) → (old new : List Slot) → CutterState → Option Fault
    → Type 0
Settles visible cutter pending old new next fault = (first : CutterState) (done rest : List ℕ) (slots : List Slot)
    → Waits visible first done slots old cutter pending → (cutter.aim ≡ Below) ⊎ (rest ≡ []) → Joins done rest
    → Takes visible first (done ++ rest) slots new next fault

-- the cutter without the lines that wait
abbrev pub emptied : CutterState → CutterState
emptied cutter = record cutter { window = record cutter.window { held = [] } }

-- this line is the last in x; if the line ends with its newline, x is complete lines
abbrev pub IsLastLine : List ℕ → List ℕ → Type 0
IsLastLine x line = (front : List Line) × (all_lines x ≡ front ++ marked line ∷ [])
    × (ends_with newline line ≡ true → IsWhole x)

-- whether a line of this number has the pattern that is searched for, if the search reaches the line
pub record IsFound (cutter : CutterState) (text : List ℕ) (number : ℕ) (found : Bool) : Type 0 where
  pub none : cutter.sought ≡ None → found ≡ false
  pub before : number < search_line (suppress_in cutter) (state_in cutter) → found ≡ false
  pub some : (pattern : Pattern) → cutter.sought ≡ Some pattern
      → search_line (suppress_in cutter) (state_in cutter) ≤ number → found ≡ contains pattern text

-- x has as many lines as came in, and `line` is the last of them. No line before it has the pattern that is searched
-- for, from the beginning of the search on.
pub record Looked (cutter : CutterState) (x line : List ℕ) : Type 0 where
  pub counted : cutter.lines ≡ line_count newline x
  pub last : IsLastLine x line
  pub others : (operand : Operand) (operands : List Operand) → (state_in cutter).operands ≡ operand ∷ operands
      → (other : ℕ) → search_line (suppress_in cutter) (state_in cutter) ≤ other → other < cutter.lines
      → is_match operand (all_lines x) other ≡ false

abbrev pub WillCut : CutterState → CutPoint → Type 0
WillCut cutter = CutMoves cutter.style cutter.operands cutter.lines cutter.progress

-- the line at which a search after this cut begins
abbrev pub search_after : Bool → CutPoint → ℕ
search_after suppress cut = search_line suppress
    (record { operands = []; repetition = 0; current = line_after suppress cut.line; matched = cut.matched })

-- After the cut no line before the last one is looked at. This is said only if it was so before the cut, or if a
-- pattern cuts.
abbrev pub StaysNear : CutterState → CutPoint → Type 0
StaysNear cutter cut = (cutter.lines ≤ search_line (suppress_in cutter) (state_in cutter)) ⊎ (cutter.sought ≡ None → ⊥)
    → cutter.lines ≤ search_after (suppress_in cutter) cut

-- What trying the next operand with the last line says of the plan over all lines that came in.
abbrev pub Tries : CutterState → List ℕ → CutterState → Option CutPoint → Type 0
Tries cutter line next None = (x : List ℕ) → Looked cutter x line → EndsNow next x
Tries cutter line next (Some cut) = (x : List ℕ) → Looked cutter x line
    → CutsIn cutter x cut × StaysNear cutter cut

-- What `Tries` says, for a line that is counted first; the lines x came in before it.
abbrev pub TriesNext : CutterState → List ℕ → CutterState → Option CutPoint → Type 0
TriesNext cutter line next None = (x : List ℕ) → IsWhole x → cutter.lines ≡ line_count newline x → EndsNow cutter x
    → EndsNow next (x ++ line)
TriesNext cutter line next (Some cut) = (x : List ℕ) → IsWhole x → cutter.lines ≡ line_count newline x
    → EndsNow cutter x → CutsIn cutter (x ++ line) cut × (next.lines ≤ search_after (suppress_in cutter) cut)

-- A cut that is due. The lines `before` stand before it, and those of `rest` after it; `line` is the last.
pub record Due : Type 0 where
  pub cutter : CutterState
  pub cut : CutPoint
  pub before : List ℕ
  pub rest : List ℕ
  pub line : List ℕ

abbrev pub due : CutterState → CutPoint → (before rest line : List ℕ) → Due
due cutter cut before rest line = record { cutter = cutter; cut = cut; before = before; rest = rest; line = line }

-- the lines that are left
abbrev pub left_in : Due → List ℕ
left_in due = due.before ++ due.rest

-- how many lines came in from the cut on
abbrev pub after_cut : CutterState → CutPoint → ℕ
after_cut cutter cut = cutter.lines + 1 - cut.line

-- a cut before the last of these lines
abbrev pub last_due : CutterState → CutPoint → (left line : List ℕ) → Due
last_due cutter cut left line = let n = after_cut cutter cut in
    due cutter cut (but_last_lines newline n left) (last_lines newline n left) line

-- The lines x came in. The plan over them makes the cut, and no line of x before the last is to be looked at again.
pub record CutsNow (due : Due) (x : List ℕ) (at : IsAt (bare due.cutter) x (left_in due)) : Type 0 where
  pub last : IsLastLine x due.line
  pub near : due.cutter.lines ≤ search_after (suppress_in due.cutter) due.cut
  pub low : due.cutter.progress.current + at.taken ≤ due.cut.line
  pub before_is : due.before
      ≡ first_lines newline (due.cut.line - (due.cutter.progress.current + at.taken)) (left_in due)
  pub goes : CutsIn due.cutter x due.cut

-- the attempt is no cut
abbrev pub IsNoCut : Attempt → Type 0
IsNoCut (Cuts cut) = ⊥
IsNoCut attempt = Unit {0}

-- where the run stands after this cut
abbrev pub PassesOn : CutterState → CutPoint → CutterState → Type 0
PassesOn cutter cut next = (operand : Operand) (operands : List Operand)
    → (state_in cutter).operands ≡ operand ∷ operands
    → state_in next ≡ state_after (suppress_in cutter) operand operands cutter.progress.repetition cut

-- The run went on after a cut, and nothing is written yet.
pub record WentOn (cutter : CutterState) (cut : CutPoint) (next : CutterState) : Type 0 where
  pub same : next ≡ record cutter { progress = next.progress; window = next.window; sought = next.sought }
  pub held : next.window.held ≡ []
  pub fit : IsFit next
  pub fewer : needed next.lines (state_in next) < needed cutter.lines (state_in cutter)
  pub state : PassesOn cutter cut next

-- memory was lacking, and the writer, operands and style are as before
abbrev pub Lacks : CutterState → CutterState → Fault → Type 0
Lacks cutter next fault = (fault ≡ Memory) × (next.writer ≡ cutter.writer) × (next.operands ≡ cutter.operands)
    × (next.style ≡ cutter.style)

abbrev pub PassesCut : CutterState → CutPoint → CutterState → Option Fault → Type 0
PassesCut cutter cut next None = WentOn cutter cut next
PassesCut cutter cut next (Some fault) = Lacks cutter next fault

-- the cutter with what its next operand needs
abbrev pub equipped : CutterState → CutterState
equipped cutter = record cutter {
  window = record { most = most_by (state_in cutter).operands; delim = newline; held = [] };
  sought = pattern_by (state_in cutter).operands;
}

-- `end` is the end of this text
abbrev pub IsEnd : List ℕ → List ℕ → Type 0
IsEnd end text = (front : List ℕ) × (text ≡ front ++ end)

-- What is true after a cut: the open section has no line yet, and no line before the last one is to be looked at again.
pub record IsAfter (visible : Bool) (due : Due) (x : List ℕ) (low : Written) (old new : List Slot) (next : CutterState)
    (rest : List ℕ) : Type 0 where
  pub now : IsAt (bare next) x rest
  pub looked : Looked next x due.line
  pub near : next.lines ≤ search_line (suppress_in next) (state_in next)
  pub none : now.taken ≡ 0
  pub grows : Begins low (part_at now)
  pub reaches : Puts due.cutter next low (part_at now) (effect visible old new) None

-- Some cuts were made, and the lines `left` are left.
pub record Spreading (visible : Bool) (due : Due) (old new : List Slot) (now : CutterState) (left : List ℕ)
    : Type 0 where
  pub keeps : Keeps due.cutter now old new None
  pub lines : now.lines ≡ due.cutter.lines
  pub fit : IsFit now
  pub held : now.window.held ≡ []
  pub after : (x : List ℕ) (at : IsAt (bare due.cutter) x (left_in due)) → CutsNow due x at
      → IsAfter visible due x (part_at at) old new now left
  pub size : size_of now.writer.current + length left ≤ size_of due.cutter.writer.current + length (left_in due)
  pub end : IsEnd left due.rest

-- The open section ended at a cut, and the next one began.
pub record CutAt (visible : Bool) (due : Due) (old new : List Slot) (next : CutterState) (rest : List ℕ) : Type 0 where
  pub fewer : needed next.lines (state_in next) < needed due.cutter.lines (state_in due.cutter)
  pub spreading : Spreading visible due old new next rest

-- No operand cuts what is left any more, and nothing of it is written or waits yet.
pub record Spread (visible : Bool) (due : Due) (old new : List Slot) (next : CutterState) (left : List ℕ) : Type 0 where
  pub now : CutterState
  pub so_far : Spreading visible due old new now left
  pub is : next ≡ record now { aim = next.aim }
  pub tries : Tries now due.line next None
  pub aim : IsAimed next

-- A fault came while the lines that were left were cut.
pub record CutsShort (visible : Bool) (due : Due) (old new : List Slot) (next : CutterState) (fault : Fault)
    : Type 0 where
  pub keeps : Keeps due.cutter next old new (Some fault)
  pub reaches : (x : List ℕ) (at : IsAt (bare due.cutter) x (left_in due)) → CutsNow due x at
      → Puts due.cutter next (part_at at) (settled_part due.cutter x) (effect visible old new) (Some fault)

-- The lines that were left were cut as often as operands cut them. Of these lines those that are held are left and,
-- after them, those of `pending`.
pub record Cut (visible : Bool) (due : Due) (old new : List Slot) (next : CutterState) (pending : List ℕ) : Type 0 where
  pub keeps : Keeps due.cutter next old new None
  pub lines : next.lines ≡ due.cutter.lines
  pub sound : IsSound next
  pub size : size_of next.writer.current + length next.window.held + length pending
      ≤ size_of due.cutter.writer.current + length (left_in due)
  pub comes : (x : List ℕ) (at : IsAt (bare due.cutter) x (left_in due)) → CutsNow due x at
      → Comes visible due.cutter (part_at at) old new next x pending

-- the lines that were left were cut, and those that still wait are held
pub data CutsHeld (visible : Bool) (due : Due) (old new : List Slot) (next : CutterState) : Option Fault → Type 0 where
  held_well : Cut visible due old new next [] → CutsHeld visible due old new next None
  held_short : (fault : Fault) → CutsShort visible due old new next fault
      → CutsHeld visible due old new next (Some fault)

-- how many lines past the last one the next cut may stand
abbrev pub past_in : CutterState → ℕ
past_in cutter = past_by cutter.style (state_in cutter).operands

-- the next line is left out: the last cut stands at it
abbrev pub WillSkip : CutterState → Type 0
WillSkip cutter = cutter.lines + 1 < cutter.progress.current

-- What passing over lines does: the next operand stands as it did.
pub record PassesOver (cutter : CutterState) (text : List ℕ) (next : CutterState) (n : ℕ) : Type 0 where
  pub same : next ≡ record cutter { lines = next.lines }
  pub within : n ≤ length text
  pub whole : IsWhole (take n text)
  pub few : next.lines ≤ cutter.lines + n
  pub none : WillSkip cutter → n ≡ 0
  pub sound : IsSound next
  pub ends : (x : List ℕ) → Joins x (take n text) → cutter.lines ≡ line_count newline x → EndsNow cutter x
      → (next.lines ≡ line_count newline (x ++ take n text)) × EndsNow next (x ++ take n text)

-- the pattern that is searched for was found in the first of these lines, which has this many bytes
pub record IsNextFound (cutter : CutterState) (rest : List ℕ) (size : ℕ) : Type 0 where
  pub some : 0 < size
  pub within : size ≤ length rest
  pub line : IsLine (take size rest)
  pub ends : ends_with newline (take size rest) ≡ true
  pub aim : cutter.aim ≡ Missed
  pub found : IsFound cutter (without_newline (take size rest)) (cutter.lines + 1) true

-- What passing over lines does if the pattern may be found in the line that follows.
pub record StopsAt (cutter : CutterState) (text : List ℕ) (next : CutterState) (passed : Passed) : Type 0 where
  pub over : PassesOver cutter text next passed.size
  pub found : IfSome passed.found (IsNextFound next (drop passed.size text))

-- no line of a text contains the pattern
abbrev pub AreClear : Pattern → List ℕ → Type 0
AreClear pattern x = (k : ℕ) → k < line_count newline x
    → contains pattern (without_newline (get_or (lines_of newline x) k [])) ≡ false

-- These lines were counted, and none has the pattern that is searched for.
pub record PassesClear (cutter : CutterState) (text : List ℕ) (next : CutterState) (n : ℕ) : Type 0 where
  pub same : next ≡ record cutter { lines = next.lines }
  pub within : n ≤ length text
  pub whole : IsWhole (take n text)
  pub count : next.lines ≡ cutter.lines + line_count newline (take n text)
  pub clear : (pattern : Pattern) → cutter.sought ≡ Some pattern → AreClear pattern (take n text)

-- the first line, which has this many bytes, may lack its newline if it is the only line
pub record Starts (text : List ℕ) (size : ℕ) : Type 0 where
  pub within : size ≤ length text
  pub line : IsLine (take size text)
  pub rest : IsWhole (drop size text)
  pub complete : (drop size text ≡ []) ⊎ (ends_with newline (take size text) ≡ true)

-- the lines of the text that wait
abbrev pub pending_in : List ℕ → Stretch → List ℕ
pending_in text stretch = drop stretch.from (take stretch.end text)

-- the next line of the text, and where it ends
abbrev pub next_in : List ℕ → Stretch → List ℕ
next_in text stretch = take stretch.next (drop stretch.end text)

abbrev pub next_end : Stretch → ℕ
next_end stretch = stretch.end + stretch.next

-- the stretch lies in the text, and complete lines stand before its end
pub record IsWithin (text : List ℕ) (stretch : Stretch) : Type 0 where
  pub from : stretch.from ≤ stretch.end
  pub within : stretch.end ≤ length text
  pub before : IsWhole (take stretch.end text)

-- complete lines may follow in the text after `end`, and lines before `end` wait from `from` on
pub record MayGoOn (text : List ℕ) (from end : ℕ) : Type 0 where
  pub low : from ≤ end
  pub within : end ≤ length text
  pub rest : IsWhole (drop end text)
  pub joins : Joins (take end text) (drop end text)

-- the pattern that is searched for was found in the next line, if the stretch says so
abbrev pub IsNextKnown : CutterState → List ℕ → Stretch → Type 0
IsNextKnown cutter text stretch = stretch.is_found ≡ true
    → IsFound cutter (without_newline (next_in text stretch)) (cutter.lines + 1) true

-- The lines of a text before the end of a stretch came in, and those of the stretch wait.
pub record Taking (visible : Bool) (first now : CutterState) (text : List ℕ) (stretch : Stretch) (old new : List Slot) :
    Type 0 where
  pub waits : Waits visible first (take stretch.end text) old new now (pending_in text stretch)
  pub from : stretch.from ≤ stretch.end
  pub within : stretch.end ≤ length text
  pub joins : Joins (take stretch.end text) (drop stretch.end text)
  pub next : 0 < stretch.next → (now.aim ≢ Below) × Starts (drop stretch.end text) stretch.next
  pub none : stretch.next ≡ 0 → (now.aim ≡ Below) ⊎ (drop stretch.end text ≡ [])
  pub found : IsNextKnown now text stretch

-- The lines of a text after `end` were passed over. Those before `end` wait from `from` on.
pub record Extends (cutter : CutterState) (text : List ℕ) (from end : ℕ) (next : CutterState) (on : Stretch) :
    Type 0 where
  pub more : end ≤ on.end
  pub taking : (visible : Bool) (first : CutterState) (old new : List Slot)
      → Waits visible first (take end text) old new cutter (drop from (take end text))
      → Taking visible first next text on old new

-- The text came in up to the end of a stretch that waits, or a fault came among its bytes.
abbrev pub IsTaken : Bool → (first : CutterState) → (text : List ℕ) → (old new : List Slot) → CutterState
    → Result Stretch Fault → Type 0
IsTaken visible first text old new next (Ok on) = Taking visible first next text on old new
IsTaken visible first text old new next (Err fault) = Takes visible first text old new next (Some fault)

-- More of the text came in, whatever came before it, or a fault came.
pub record Advances (visible : Bool) (cutter : CutterState) (text : List ℕ) (stretch : Stretch) (old new : List Slot)
    (next : CutterState) (result : Result Stretch Fault) : Type 0 where
  pub more : IfOk result (λ on. stretch.end < on.end)
  pub taken : (first : CutterState) (slots : List Slot)
      → Waits visible first (take stretch.end text) slots old cutter (pending_in text stretch)
      → IsTaken visible first text slots new next result

-- what is written if the input ends after these lines
abbrev pub whole_part : CutterState → List ℕ → Written
whole_part cutter x = whole_of cutter.style cutter.operands (all_lines x)

-- what standard output gets about files
abbrev pub tells_by : Style → Tells
tells_by style = if style.quiet then Nothing else Sizes

-- a writer that has made no file
abbrev pub new_for : Style → WriterState
new_for style = new_writer (naming_of style) (tells_by style) All

-- a writer that has made no file, while nothing is begun
abbrev pub writer_for : Style → WriterState
writer_for style = paused (new_for style)

-- The first section could not begin, which would have made this part: a file could not be made, or memory was lacking.
pub record BegunNot (visible : Bool) (style : Style) (part : Written) (old new : List Slot) (fault : Fault)
    : Type 0 where
  pub reaches : Reaches (sizes_wanted style) (writer_for style) (writer_for style) nothing part (effect visible old new)
      (Some fault)
  pub breaks : Breaks (manner_of style) old new fault
  -- no file was made
  pub none : HasNoFiles (length old) new

-- The first section began, and no line came in yet.
pub record Opened (visible : Bool) (style : Style) (operands : List Operand) (old new : List Slot)
    (cutter : CutterState) : Type 0 where
  pub asked : cutter.style ≡ style
  pub operands_are : cutter.operands ≡ operands
  pub stands : Stands cutter []
  pub reaches : Reaches (sizes_wanted style) (writer_for style) cutter.writer nothing (settled_of style operands [])
      (effect visible old new) None
  pub owns : OwnsFiles cutter.writer (length old) new
  pub ready : IsReady cutter.writer new
  pub output : IsTrue (is_writable old 0) → IsTrue (is_writable new 0)
  pub manner : IsManner (manner_of style) (manner_in cutter.writer)
  pub all : cutter.writer.keeps ≡ All
  pub sound : IsSound cutter
  pub size : load cutter ≡ 0

abbrev pub Opens : Bool → Style → List Operand → List Slot → List Slot → Result LineCutter Fault → Type 0
Opens visible style operands old new (Ok cutter) = Opened visible style operands old new (seen cutter)
Opens visible style operands old new (Err fault) = BegunNot visible style (settled_of style operands []) old new fault

-- The last section ended, or a fault came before that. Where the plan ends stays known.
pub record EndsAll (visible : Bool) (cutter : CutterState) (old new : List Slot) (next : CutterState)
    (fault : Option Fault) : Type 0 where
  pub keeps : Keeps cutter next old new fault
  pub reaches : (x : List ℕ) → Stands cutter x
      → Puts cutter next (settled_part cutter x) (whole_part cutter x) (effect visible old new) fault
  pub judged : IfNone fault ((x : List ℕ) → Stands cutter x → IsJudged next x)

-- The files that were there are removed, and the files are left whose removal failed.
pub record Clears (cutter : CutterState) (old new : List Slot) (next : CutterState) : Type 0 where
  pub same : next ≡ record cutter { writer = record cutter.writer { files = next.writer.files } }
  pub removes : Removes cutter.writer.files old next.writer.files new

-- a piece came after the open line; what follows the complete lines of both waits
pub record Came (stage : CsplitState) (piece : List ℕ) (next : CsplitState) : Type 0 where
  pub live : next.cutter.aim ≢ Below → next.rest ≡ open_line (stage.rest ++ piece)
  pub past : next.cutter.aim ≡ Below → (stage.cutter.aim ≡ Below → stage.rest ≡ []) → next.rest ≡ []
  pub still : stage.cutter.aim ≡ Below → next.cutter ≡ stage.cutter
  pub unbroken : delimiters newline next.rest ≡ 0
  pub size : load next.cutter + length next.rest ≤ load stage.cutter + length stage.rest + length piece

-- The complete lines of the open line and a piece went to the cutter, or a fault came among them.
pub record Passes (visible : Bool) (stage : CsplitState) (piece : List ℕ) (old new : List Slot) (next : CsplitState)
    (result : Result (Unit {0}) Fault) : Type 0 where
  pub took : Takes visible stage.cutter (whole_lines (stage.rest ++ piece)) old new next.cutter (fault_in result)
  pub passed : OnOk result (Came stage piece next)

-- The open line came in, if there was one, and the last section ended; or a fault came before that.
pub record Closed (visible : Bool) (stage : CsplitState) (old new : List Slot) (next : CsplitState)
    (fault : Option Fault) : Type 0 where
  pub keeps : Keeps stage.cutter next.cutter old new fault
  pub reaches : (x : List ℕ) → IsWhole x → Stands stage.cutter x
      → Puts stage.cutter next.cutter (settled_part stage.cutter x) (whole_part stage.cutter (x ++ stage.rest))
      (effect visible old new) fault
  pub judged : IfNone fault ((x : List ℕ) → IsWhole x → Stands stage.cutter x → IsJudged next.cutter (x ++ stage.rest))

-- the cutter's verdict after the last section is the verdict with which the plan over all lines ends
abbrev pub Judges : CutterState → Option Verdict → Type 0
Judges cutter verdict = (x : List ℕ) → IsJudged cutter x
    → verdict ≡ verdict_of (plan_in cutter x).ending

-- How the end went: well; or a fault came before the end; or the end came, and the work ends with a verdict.
pub data Closes (visible : Bool) (stage : CsplitState) (old new : List Slot) (next : CsplitState) : Result
    (Unit {0}) Fault
    → Type 0 where
  ended_well : Closed visible stage old new next None → Judges next.cutter None
      → Closes visible stage old new next (Ok tt)
  ended_short : (fault : Fault) → Closed visible stage old new next (Some fault)
      → Closes visible stage old new next (Err fault)
  ended_so : (verdict : Verdict) (mid : CsplitState) (reached : List Slot) → Closed visible stage old reached mid None
      → Judges mid.cutter (Some verdict) → Sweeps terms mid next reached new
      → Closes visible stage old new next (Err (fault_is.Verdict verdict))
