-- Lemmas on the cutter of lines: what is settled, what holding lines leaves, and that a cut ends the open section and
-- begins the next.
use Rattle.std.{
  proofs.lemmas.{
    Grind.{common_steps, flat_map-append},
    Bool.cases_lt,
    List.{append_cancel_left, append-nil, length-take-le, length-drop, take-append-le, drop-append-le, take_all},
    List.{drop_all, drop-drop, map-append},
  },
  proofs.Common.{◌≡◌, ℕ, ◌+◌, ◌-◌, ◌≤◌, Bool, true, false, List, [], ◌++◌, length, refl, sym, ◌∙◌, ap, arith, inl},
  proofs.Common.{inr, Option, None, subst, ◌<◌, min, Some, Result, OnOk, take, drop, IfNone, rules, suc, ◌∷◌, ◌⊎◌},
  proofs.Common.{map, append_assoc, length-append},
  proofs.Math.Seq.{take-add, take-append-add, drop-append-add},
  specs.List.flat_map,
}
use Rattle.seg_core.{
  specs.{
    Line.{line_count, first_lines, after_lines, but_last_lines},
    inner.Lines.last_lines,
    Window.{Window, without_first},
  },
  proofs.{
    FirstLines.{first_lines-is_take, first_lines-zero, first_lines_then_rest},
    Carried.{but_last_lines-last, last_lines-is_drop, over-le-length},
  },
}
use Rattle.csplit_core.specs.{
  Csplit.{settled_of, whole_of},
  Input.{newline, all_lines},
  Operand.{Operand, Line},
  Output.{Style, manner_of, opening_of, file_in, shares_in, part_of, sizes_wanted},
  Plan.{State, start, Step, Ending, Plan, after_steps, CutPoint, Runs, search_line, line_after, state_after, step_of},
  Plan.{is_used_up, misses, is_above, is_below, cuts},
  Planned.plan,
  Section.{lines_between, is_last_kept, settled_end, whole_end, is_final, most_waiting, bytes_of, Section, section},
  Section.section_of,
  Progress.state_of,
  declared.progress.Attempt.{Attempt, TheVariants.Below},
  laws.{
    PlanLaws.{plan_once, goes_on, line_some, runs_on},
    SectionLaws.{ends_as, closed_still, are_within, shares-append, section_grows},
  },
  inner.{
    PlanLaws.EndsAs,
    Cutter.{Joins, settled_part, Keeps, KeepsBy, part_at, draft_at, bare, Puts, CutsIn, Arrives, emptied, left_in},
    Cutter.{suppress_in, search_after, Due, CutsNow, WentOn, IsAfter, CutAt, CutsShort, WillCut, WillSkip, IsEnd},
  },
  Cutter.{kept_by, most_by, text_from, draft_by, settled_draft, CutterState, state_in, IsAt, EndsNow, IsLive, IsFit},
  Cutter.{Leads, IsPast, Stands},
}
use Rattle.csplit_core.proofs.{
  LineLemmas.{all_lines-append, bytes_between, length-all_lines, count-append, count_from, first_still, rest_more},
  LineLemmas.{from_further, first_further},
}
use Rattle.engine_core.specs.{
  Draft.{Draft, share, made_of, shares_of, draft_part, with_bytes, with_next, told_of_files, size_of_file},
  declared.file_writer.Opening.{Opening, TheVariants.Never},
  FileWriter.{Goes, Reaches, Leaves, WriterState, Writes, IsReady, size_of},
  Written.{Begins, Written, lines_for},
}
use Rattle.ports_core.specs.{Slot.{effect, Slot}, declared.{fault.Fault.Fault, slot.State.TheVariants.Closed}}
use Rattle.engine_core.proofs.{
  ShareLemmas.{next_shares, bytes_begin, next_begins},
  FileWriterLemmas.{leaves_again, reaches_again, reaches_as, where_three, stops_wider, put_nothing},
  WriterSteps.{goes_again, goes_as, goes_more, stops_among},
  WrittenLemmas.part_trans,
}

-- What is settled of complete lines, by where the plan over them ends.

-- the sections of the plan; the last section has what stands before the line that `past` gives
abbrev pub draft_to : (ℕ → Ending → ℕ) → Style → List Operand → List Line → Draft
draft_to past style operands lines =
    let p = plan style operands lines in
    draft_by style lines p.steps (is_last_kept p.ending) (bytes_of (lines_between p.last.current (past (length lines) p.ending) lines))

-- these steps' draft is the plan's, if the plan ends after these steps
pub draft_is : (past : ℕ → Ending → ℕ) (style : Style) (operands : List Operand) (x : List ℕ) {plan : Plan}
    (taken : ℕ) {written : List ℕ} → Runs style (all_lines x) (start operands) plan
    → taken ≡ past (line_count newline x) plan.ending - plan.last.current
    → written ≡ first_lines newline taken (text_from plan.last.current x)
    → draft_by style (all_lines x) plan.steps (kept_by plan.last.operands) written
    ≡ draft_to past style operands (all_lines x)
draft_is past style operands x taken runs taken_is written_is = search (rules, ends_as, length-all_lines, bytes_between, plan_once)

-- what standard output has for sections is the sizes of the files that are closed
pub sizes_are : (style : Style) → style.quiet ≡ false → (files : List Slot)
    → told_of_files (sizes_wanted style) files ≡ lines_for size_of_file files
sizes_are style loud files = search rules

-- the sections of steps are closed
closed_shares : (style : Style) (lines : List Line) (steps : List Step)
    → shares_in style (map (section_of lines) steps)
    ≡ map (share Closed) (flat_map (file_in style) (map (section_of lines) steps))
closed_shares style lines [] = refl
closed_shares style lines (step ∷ steps) =
    ap (λ rest. map (share Closed) (file_in style (section_of lines step)) ++ rest) (closed_shares style lines steps)
    ∙ sym (search (rules, map-append))

-- the shares of these sections, and of the last section
shares_to : (style : Style) (lines : List Line) (steps : List Step) (last : Section)
    → shares_in style (map (section_of lines) steps ++ last ∷ [])
    ≡ map (share Closed) (flat_map (file_in style) (map (section_of lines) steps)) ++ shares_in style (last ∷ [])
shares_to style lines steps last = search (rules, shares-append, closed_shares)

-- the shares of sections that ended, and of an open section
draft_shares : (style : Style) (lines : List Line) (steps : List Step) (kept : Bool) (last : List Line)
    → shares_of (draft_by style lines steps kept (bytes_of last))
    ≡ shares_in style (map (section_of lines) steps ++ section kept false last ∷ [])
draft_shares style lines steps kept last = search (rules, append-nil, shares_to)

-- what is written of the settled draft is what is settled
pub settled_part_is : (style : Style) (operands : List Operand) (lines : List Line)
    → draft_part (manner_of style) (settled_draft style operands lines) ≡ settled_of style operands lines
settled_part_is style operands lines = search (rules, draft_shares)

-- once the last section ended, what is written is the whole
pub whole_part_is : (style : Style) (operands : List Operand) (lines : List Line)
    → draft_part (manner_of style) (with_next Never (draft_to whole_end style operands lines))
    ≡ whole_of style operands lines
whole_part_is style operands lines = grind (arith, common_steps, next_shares, shares_to)

pub final_count : (total current : ℕ) (ending : Ending) → is_final ending ≡ true
    → 0 ≡ settled_end total ending - current
final_count total current ending past = search rules

-- the sections that ended stay, whatever comes
pub ended_still : (style : Style) (operands : List Operand) {x : List ℕ} (t : List ℕ) {plan : Plan} (kept : Bool)
    (written : List ℕ) → Joins x t → Runs style (all_lines x) (start operands) plan
    → draft_by style (all_lines x) plan.steps kept written ≡ draft_by style (all_lines (x ++ t)) plan.steps kept written
ended_still style operands t kept written whole runs = search (rules, are_within, all_lines-append, closed_still)

-- as many lines may wait as the next operand says
pub most_is : (style : Style) (lines : List Line) (state : State) (ending : Ending)
    → EndsAs style lines state ending → is_final ending ≡ false → most_by state.operands ≡ most_waiting ending
most_is style lines state ending none live = search rules

-- one call after another
pub keeps_on : {given : List Operand} {made : Style} {writer : WriterState} {two three : CutterState}
    {old mid new : List Slot} {fault : Option Fault} → KeepsBy given made writer two old mid None
    → Keeps two three mid new fault → KeepsBy given made writer three old new fault
keeps_on first second = search (rules, leaves_again)

-- what is written by two calls, if the style stays
pub reaches_then : {visible : Bool} {style other : Style} {low middle high : Written} {old mid new : List Slot}
    {fault : Option Fault} {one two three : WriterState} → other ≡ style → Begins low middle
    → Reaches (sizes_wanted style) one two low middle (effect visible old mid) None
    → Reaches (sizes_wanted other) two three middle high (effect visible mid new) fault
    → Reaches (sizes_wanted style) one three low high (effect visible old new) fault
reaches_then same begins first second = reaches_again begins first (rw same at second)

-- what style and operands decide stays as it is
pub same_by : {A : Type 0} {given : List Operand} {made : Style} {writer : WriterState} {next : CutterState}
    {old new : List Slot} {fault : Option Fault} (f : Style → List Operand → A)
    → KeepsBy given made writer next old new fault → f next.style next.operands ≡ f made given
same_by f keeps = search rules

pub settled_same : {given : List Operand} {made : Style} {writer : WriterState} {next : CutterState}
    {old new : List Slot} {fault : Option Fault} (x : List ℕ) → KeepsBy given made writer next old new fault
    → settled_part next x ≡ settled_of made given (all_lines x)
settled_same x keeps = search rules

-- the plan runs up to the cutter's state
pub runs_to : {cutter : CutterState} {x left : List ℕ} (at : IsAt cutter x left) {aim : Attempt}
    (ends : EndsNow (record cutter { aim = aim }) x)
    → Runs cutter.style (all_lines x) (start cutter.operands)
    (record { steps = at.steps; last = state_in cutter; ending = ends.ending })
runs_to at ends = rw (append-nil at.steps) at (at.leads _ ends.runs)

-- more lines came in, and nothing was done with them yet: `those` are left
unfoldable pub at_more : {cutter : CutterState} {lines : ℕ} {x : List ℕ} (t those : List ℕ) {left : List ℕ} → Joins x t
    → 1 ≤ cutter.progress.current → (at : IsAt cutter x left) {aim : Attempt}
    → EndsNow (record cutter { aim = aim }) x → lines ≡ line_count newline (x ++ t)
    → those ≡ text_from (cutter.progress.current + at.taken) (x ++ t)
    → IsAt (bare (record cutter { lines = lines })) (x ++ t) those
at_more {cutter} t those whole some at ends count left_is =
    let e = all_lines-append t whole in record {
      steps = at.steps;
      leads = λ rest run. rw e (goes_on (all_lines t) (runs_to at ends) (rw e at run));
      counted = count;
      taken = at.taken;
      written = at.written;
      few = omega (arith, at.few, count-append t whole);
      written_is = at.written_is ∙ sym (first_still at.taken cutter.progress.current t whole some at.few);
      left_is = left_is;
      writes = subst (Writes (manner_of cutter.style) cutter.writer) (ended_still cutter.style cutter.operands t _ at.written whole (runs_to at ends)) at.writes;
    }

pub part_more : {cutter : CutterState} {lines : ℕ} {x : List ℕ} (t those : List ℕ) {left : List ℕ} (whole : Joins x t)
    (some : 1 ≤ cutter.progress.current) (at : IsAt cutter x left) {aim : Attempt}
    (ends : EndsNow (record cutter { aim = aim }) x)
    (count : lines ≡ line_count newline (x ++ t))
    (left_is : those ≡ text_from (cutter.progress.current + at.taken) (x ++ t))
    → part_at at ≡ part_at (at_more t those whole some at ends count left_is)
unfolding at_more
part_more {cutter} t those whole some at ends count left_is = ap (draft_part (manner_of cutter.style))
    (ended_still cutter.style cutter.operands t _ at.written whole (runs_to at ends))

-- all further lines are left, unless the first of them is left out
pub all_left : {cutter : CutterState} {x : List ℕ} (t : List ℕ) {left : List ℕ} → Joins x t
    → 1 ≤ cutter.progress.current → (at : IsAt cutter x left) → (WillSkip cutter → t ≡ [])
    → left ++ t ≡ text_from (cutter.progress.current + at.taken) (x ++ t)
all_left {cutter} {x} t {left} whole some at none = elim (cases_lt (cutter.lines + 1) cutter.progress.current) [
  | inl skips ↦ rw (none skips) (search (rules, append-nil, at.left_is))
  | inr near ↦ ap (λ those. those ++ t) at.left_is
      ∙ rest_more (cutter.progress.current + at.taken) t whole (omega arith)
      (let few = at.few in let count = at.counted in omega arith)
]

-- the lines of the open section that were taken are those that are settled
pub live_taken : {cutter : CutterState} {x : List ℕ} (live : IsLive cutter x)
    → live.at.taken ≡ settled_end (line_count newline x) live.ends.ending - cutter.progress.current
live_taken live = search rules

pub live_part : {cutter : CutterState} {x : List ℕ} (live : IsLive cutter x)
    → part_at live.at ≡ settled_part cutter x
live_part {cutter} {x} live =
    ap (draft_part (manner_of cutter.style)) (draft_is settled_end cutter.style cutter.operands x live.at.taken
    (runs_to live.at live.ends) (live_taken live) live.at.written_is)
    ∙ settled_part_is cutter.style cutter.operands (all_lines x)

-- how many lines are left
pub left_count : {cutter : CutterState} {x left : List ℕ} (at : IsAt cutter x left)
    → line_count newline left ≡ cutter.lines - (cutter.progress.current + at.taken - 1)
left_count at = search (rules, count_from)

pub few_taken : {cutter : CutterState} {x left : List ℕ} (at : IsAt cutter x left)
    → at.taken ≤ cutter.lines + 1 - cutter.progress.current
few_taken at = search rules

-- once the first of the lines that were left are written, the lines after them are left
module _ {cutter : CutterState} {x left : List ℕ} (n : ℕ) (some : 1 ≤ cutter.progress.current)
    (at : IsAt cutter x left) where
  pub written_on : {bytes : List ℕ} → bytes ≡ first_lines newline n left
      → at.written ++ bytes ≡ first_lines newline (at.taken + n) (text_from cutter.progress.current x)
  written_on {bytes} bytes_is = search (rules, first_further)

  left_on : after_lines newline n left ≡ text_from (cutter.progress.current + at.taken + n) x
  left_on = search (rules, from_further)

-- Writing lines that wait to the open section.

-- The first bytes of what waited were written and dropped, and `left` bytes are still to be written.
pub record Emptying (visible : Bool) (writer now : WriterState) (window left_in : Window) (n left : ℕ)
    (old new : List Slot) : Type 0 where
  pub few : left ≤ n
  pub rest : left_in ≡ without_first window (n - left)
  pub went : Goes writer now (with_bytes (take (n - left) window.held)) (effect visible old new) None
  pub size : size_of now.current + length left_in.held ≤ size_of writer.current + length window.held

pub all_held : {visible : Bool} {writer : WriterState} {window : Window} {n : ℕ} {slots : List Slot}
    → IsReady writer slots
    → Emptying visible writer writer window window n n slots slots
all_held {window = window} {n} ready = search (rules, put_nothing)

-- more bytes go from the front of what waits
module _ {visible : Bool} {writer now : WriterState} {window left_in : Window} {n left : ℕ} {old mid : List Slot}
    (so_far : Emptying visible writer now window left_in n left old mid) (bytes : ℕ) (front rest : List ℕ)
    (is : left_in.held ≡ front ++ rest) (within : bytes ≤ length front) where
  taken_more : take (n - left) window.held ++ take bytes front ≡ take (n - left + bytes) window.held
  taken_more = grind (arith, common_steps, take-add)

  pub empties : bytes ≤ left → {next : WriterState} {after : Window} {new : List Slot}
      → after ≡ without_first left_in bytes
      → Goes now next (with_bytes (take bytes front)) (effect visible mid new) None
      → size_of next.current ≤ size_of now.current + length (take bytes front)
      → Emptying visible writer next window after n (left - bytes) old new
  empties few dropped went more =
      let less : length front ≤ length left_in.held = (grind (arith, common_steps)) in
      let count : n - left + bytes ≡ n - (left - bytes) = (let all = so_far.few in omega arith) in record {
        few = omega arith;
        rest = search (rules, drop-drop);
        went = goes_as (taken_more ∙ ap (λ k. take k window.held) count) (search (rules, goes_more));
        size = omega (arith, length-take-le bytes front within, ap (λ (w : Window). length w.held) dropped ∙ length-drop bytes left_in.held);
      }

  -- a write of such bytes stopped
  pub empties_short : bytes ≤ left → {next : WriterState} {new : List Slot} {fault : Fault}
      → Goes now next (with_bytes (take bytes front)) (effect visible mid new) (Some fault)
      → Goes writer next (with_bytes (take n window.held)) (effect visible old new) (Some fault)
  empties_short few stopped =
      let count : n - left + bytes + (left - bytes) ≡ n = (let all = so_far.few in omega arith) in
      goes_as (search (rules, taken_more, take-add))
      (stops_among (take (n - left) window.held ++ take bytes front) (take (left - bytes) (drop (n - left + bytes) window.held))
      (search (rules, goes_more)))

-- all lines that waited go
pub goes_held : {visible : Bool} {writer next : WriterState} {held : List ℕ} {n : ℕ} {old new : List Slot}
    {fault : Option Fault} → n ≡ length held
    → Goes writer next (with_bytes (take n held)) (effect visible old new) fault
    → Goes writer next (with_bytes held) (effect visible old new) fault
goes_held {held = held} is went = goes_as (ap (λ k. take k held) is ∙ take_all (length held) held (omega arith)) went

pub goes_both : {visible : Bool} {one two three : WriterState} (held : List ℕ) {before : List ℕ} {n : ℕ}
    {old mid new : List Slot} {fault : Option Fault} → n ≡ length held
    → Goes one two (with_bytes (take n held)) (effect visible old mid) None
    → Goes two three (with_bytes before) (effect visible mid new) fault
    → Goes one three (with_bytes (held ++ before)) (effect visible old new) fault
goes_both held {before} is first second = goes_more held before (goes_held is first) second

-- What goes of the lines that wait and of a text after them, and what stays. Of the text something goes only if all
-- that waited goes.
pub record Parted (delim most over front : ℕ) (held text : List ℕ) : Type 0 where
  pub goes : take front held ++ take (over - front) text ≡ but_last_lines delim most (held ++ text)
  pub stays : drop front held ++ drop (over - front) text ≡ last_lines delim most (held ++ text)
  pub within : over - front ≤ length text

both_parts : (n : ℕ) (xs ys : List ℕ) {k : ℕ} → k ≡ min n (length xs) → (n < length xs) ⊎ (length xs ≤ n)
    → (take k xs ++ take (n - k) ys ≡ take n (xs ++ ys)) × (drop k xs ++ drop (n - k) ys ≡ drop n (xs ++ ys))
both_parts n xs ys {k} is (inl less) =
    search (rules, append-nil, take-append-le, drop-append-le)
both_parts n xs ys {k} is (inr more) =
    let e : k ≡ length xs = omega arith in
    let all : length xs + (n - k) ≡ n = omega arith in
    (search (rules, e, all, take-append-add xs ys (n - k), drop-append-add xs ys (n - k), take_all, drop_all))

pub parted : {delim most over long front : ℕ} {held text : List ℕ}
    → over ≡ length (but_last_lines delim most (held ++ text)) → long ≡ length held → front ≡ min over long
    → Parted delim most over front held text
parted {delim} {most} {over} {held = held} {text} is all least =
    let parts = both_parts over held text (least ∙ ap (min over) all) (cases_lt over (length held)) in record {
      goes = search (rules, first_lines-is_take);
      stays = search (rules, last_lines-is_drop);
      within = omega (arith, over-le-length delim most held text);
    }

-- the contract of `hold_last` at each of its ends
module _ {delim most over front : ℕ} {held text : List ℕ} (parts : Parted delim most over front held text) where
  pub rest_fits : but_last_lines delim most (drop front held ++ drop (over - front) text) ≡ []
  rest_fits = search (rules, but_last_lines-last)

  pub hold_on : {visible : Bool} {writer between next : WriterState} {piece : List ℕ} {old mid new : List Slot}
      {fault : Option Fault} → piece ≡ take (over - front) text
      → Goes writer between (with_bytes (take front held)) (effect visible old mid) None
      → Goes between next (with_bytes piece) (effect visible mid new) fault
      → Goes writer next (with_bytes (but_last_lines delim most (held ++ text))) (effect visible old new) fault
  hold_on piece_is first second = search (rules, goes_as, goes_more)

pub kept_window : {window mid : Window} (new : Window) {over front : ℕ} {text : List ℕ}
    (result : Result (Unit {0}) Fault) → Parted window.delim window.most over front window.held text
    → mid ≡ without_first window front
    → OnOk result (new ≡ record mid { held = mid.held ++ drop (over - front) text })
    → OnOk result (new ≡ record window { held = last_lines window.delim window.most (window.held ++ text) })
kept_window new result parts dropped put = search rules

-- What holding lines leaves: all that is settled of the lines that came in is written, and the others wait.

-- the lines of `left` that are to wait are held
pub record Held (cutter : CutterState) (left : List ℕ) (next : CutterState) : Type 0 where
  pub same : next ≡ record cutter { writer = next.writer; window = next.window }
  pub window : next.window ≡ record cutter.window { held = next.window.held }
  pub stands : (x : List ℕ) (at : IsAt (bare cutter) x left) → Arrives cutter at → Stands next x
  pub size : size_of next.writer.current + length next.window.held ≤ size_of cutter.writer.current + length left

-- The lines up to x came in, and the lines `left` were left.
pub record HoldsLines (visible : Bool) (cutter : CutterState) (left : List ℕ) (old new : List Slot) (next : CutterState)
    (fault : Option Fault) : Type 0 where
  pub keeps : Keeps cutter next old new fault
  pub begins : (x : List ℕ) (at : IsAt (bare cutter) x left) → Arrives cutter at
      → Begins (part_at at) (settled_part cutter x)
  pub reaches : (x : List ℕ) (at : IsAt (bare cutter) x left) → Arrives cutter at
      → Puts cutter next (part_at at) (settled_part cutter x) (effect visible old new) fault
  pub went : IfNone fault (Held cutter left next)

-- the cutter once `hold` has written what goes and kept what stays
abbrev pub holding : CutterState → WriterState → List ℕ → CutterState
holding cutter writer held = record cutter { writer = writer; window = record cutter.window { held = held } }

-- how many of the lines that are left no longer wait
abbrev pub over_of : CutterState → List ℕ → ℕ
over_of cutter left = line_count newline left - cutter.window.most

module _ {cutter : CutterState} {x left bytes : List ℕ} {at : IsAt (bare cutter) x left} (arrives : Arrives cutter at)
    (fit : IsFit cutter) (differs : cutter.aim ≡ Below → ⊥)
    (bytes_is : bytes ≡ first_lines newline (over_of cutter left) left) where
  live : is_final arrives.ends.ending ≡ false
  live = search rules

  -- all lines are taken then, except the last that may wait
  taken_is : at.taken + over_of cutter left
      ≡ cutter.lines + 1 - cutter.progress.current - most_waiting arrives.ends.ending
  taken_is =
      let most : cutter.window.most ≡ most_waiting arrives.ends.ending = search (rules, live, most_is, ends_as) in
      (search (rules, fit.fits.some, (few_taken at), (left_count at), arrives.enough))
      ∙ ap (λ n. cutter.lines + 1 - cutter.progress.current - n) most

  -- what is written then is what is settled
  held_part : draft_part (manner_of cutter.style) (with_bytes bytes (draft_at at)) ≡ settled_part cutter x
  held_part =
      ap (draft_part (manner_of cutter.style)) (draft_is settled_end cutter.style cutter.operands x (at.taken + over_of cutter left) (runs_to at arrives.ends)
      (taken_is ∙ (search (rules, live))) (written_on (over_of cutter left) fit.fits.some at bytes_is))
      ∙ settled_part_is cutter.style cutter.operands (all_lines x)

  held_live : {writer : WriterState} {held : List ℕ} → held ≡ after_lines newline (over_of cutter left) left
      → ((draft : Draft) → Writes (manner_of cutter.style) cutter.writer draft
      → Writes (manner_of cutter.style) writer (with_bytes bytes draft)) → IsLive (holding cutter writer held) x
  held_live held_is writes = let over = over_of cutter left in let some = fit.fits.some in record {
    at = record {
      steps = at.steps;
      leads = at.leads;
      counted = at.counted;
      taken = at.taken + over;
      written = at.written ++ bytes;
      few = omega (arith, few_taken at, left_count at);
      written_is = written_on over some at bytes_is;
      left_is = grind (arith, common_steps, (left_on over some at));
      writes = writes (draft_at at) at.writes;
    };
    ends = search rules;
    live = live;
    settled = taken_is;
  }

pub hold_goes : {visible : Bool} {cutter : CutterState} {writer : WriterState} {window : Window} {left : List ℕ}
    {old new : List Slot} {fault : Option Fault} → IsFit cutter → (cutter.aim ≡ Below → ⊥)
    → Goes cutter.writer writer (with_bytes (but_last_lines cutter.window.delim cutter.window.most left))
    (effect visible old new) fault
    → IfNone fault
    (window ≡ record cutter.window { held = last_lines cutter.window.delim cutter.window.most left })
    → IfNone fault (size_of writer.current + length window.held ≤ size_of cutter.writer.current + length left)
    → HoldsLines visible cutter left old new (record cutter { writer = writer; window = window }) fault
hold_goes {cutter = cutter} {writer} {window} {left} {fault = fault} fit differs goes waits fewer = record {
  keeps = search rules;
  begins = λ x at arrives. subst (Begins (part_at at)) (held_part arrives fit differs bytes_is)
      (bytes_begin (manner_of cutter.style) _ (draft_at at));
  reaches = λ x at arrives. reaches_as refl (sym (held_part arrives fit differs bytes_is))
      (goes.reaches (manner_of cutter.style) (draft_at at) at.writes);
  went = where_three fault goes.writes waits fewer (λ writes kept size.
      let window_is : window ≡ record cutter.window { held = window.held } = search rules in record {
        same = refl;
        window = window_is;
        stands = λ x at arrives. rw window_is (inl
            (held_live arrives fit differs bytes_is
            (ap (λ (w : Window). w.held) kept ∙ ap (λ d. last_lines d cutter.window.most left) fit.delim)
            (writes (manner_of cutter.style))));
        size = size;
      });
} where
  bytes_is : but_last_lines cutter.window.delim cutter.window.most left ≡ first_lines newline (over_of cutter left) left
  bytes_is = ap (λ d. but_last_lines d cutter.window.most left) fit.delim

-- If the cut is below the current line, no line waits.

module _ {cutter : CutterState} (aim : cutter.aim ≡ Below) {x left : List ℕ} (at : IsAt (bare cutter) x left)
    (arrives : Arrives cutter at) where
  past_final : is_final arrives.ends.ending ≡ true
  past_final = search rules

  past_drafts : draft_at at ≡ settled_draft cutter.style cutter.operands (all_lines x)
  past_drafts = draft_is settled_end cutter.style cutter.operands x at.taken
      (runs_to at arrives.ends) (search (rules, final_count)) at.written_is

  pub past_now : IsPast (emptied cutter) x
  past_now = let is = plan_once (runs_to at arrives.ends) in search (rules, past_final, past_drafts)

  pub past_settled : part_at at ≡ settled_part cutter x
  past_settled = search (rules, settled_part_is, past_drafts)

-- What is settled begins with what is written when a section has begun.

-- a section that has begun with no line, and the sections after it
begins_with : (style : Style) (lines : List Line) (steps : List Step) (one : Section) (more : List Section)
    (kept : Bool) → kept ≡ one.is_kept
    → Begins (draft_part (manner_of style) (draft_by style lines steps kept []))
    (part_of style (map (section_of lines) steps ++ one ∷ more))
begins_with style lines steps one more kept same =
    rw (← draft_shares style lines steps kept []) at
    (section_grows style (map (section_of lines) steps) (section kept false []) one more refl same (bytes_of one.lines, refl))

-- the open section, if the plan ends at this state
abbrev open_at : List Line → State → Ending → Section
open_at lines last ending = section (is_last_kept ending) false
    (lines_between last.current (settled_end (length lines) ending) lines)

settled_by_plan : (style : Style) (operands : List Operand) {lines : List Line} {plan : Plan}
    → Runs style lines (start operands) plan
    → settled_of style operands lines
    ≡ part_of style (map (section_of lines) plan.steps ++ open_at lines plan.last plan.ending ∷ [])
settled_by_plan style operands runs = search (rules, plan_once, runs)

-- the next section is kept if the next operand says so
head_kept : {style : Style} {lines : List Line} {state : State} {plan : Plan} → Runs style lines state plan
    → (one : Section) × (rest : List Section)
    × (map (section_of lines) plan.steps ++ open_at lines plan.last plan.ending ∷ [] ≡ one ∷ rest)
    × (kept_by state.operands ≡ one.is_kept)
head_kept (is_used_up state none) = (_, _, refl, ap kept_by none)
head_kept (misses state operand those is none) = (_, _, refl, ap kept_by is)
head_kept (is_above state cut its from far) = (_, _, refl, ap kept_by its.are)
head_kept (is_below state cut its low) = (_, _, refl, ap kept_by its.are)
head_kept (cuts state cut its from within plan rest) = (_, _, refl, ap kept_by its.are)

begun_by : (style : Style) (operands : List Operand) {lines : List Line} (steps : List Step) {state : State}
    {more : Plan} → Runs style lines state more → Runs style lines (start operands) (after_steps steps more)
    → Begins (draft_part (manner_of style) (draft_by style lines steps (kept_by state.operands) []))
    (settled_of style operands lines)
begun_by style operands {lines} steps {state} {more} rest all =
    let head = head_kept rest in rw (
      settled_by_plan style operands all,
      map-append (section_of lines) steps more.steps,
      append_assoc (map (section_of lines) steps) (map (section_of lines) more.steps) (open_at lines more.last more.ending ∷ []),
      head.2,
    ) (search (rules, begins_with))

-- The sections once one more section ended

-- the step that makes a cut
abbrev step_at : CutterState → Operand → CutPoint → Step
step_at cutter operand cut = step_of (state_in cutter) operand cut

leads_on : {cutter : CutterState} {x left : List ℕ} (at : IsAt cutter x left) (cut : CutPoint)
    (goes : CutsIn cutter x cut)
    → Leads cutter.style (all_lines x) cutter.operands (at.steps ++ step_at cutter goes.its.operand cut ∷ [])
    (state_after (suppress_in cutter) goes.its.operand goes.its.operands cutter.progress.repetition cut)
leads_on {cutter} at cut goes rest run =
    rw (← append_assoc at.steps (step_at cutter goes.its.operand cut ∷ []) rest.steps)
    at (at.leads _ (cuts _ cut goes.its goes.from goes.within rest run))

-- The contract of `cut_at`, by how far it came. First the lines before the cut are written, then the run goes on, and
-- then the next section begins.

pub cut_stopped : {visible : Bool} {due : Due} {next : CutterState} {old new : List Slot} {fault : Fault}
    → next.operands ≡ due.cutter.operands → next.style ≡ due.cutter.style
    → Leaves due.cutter.writer next.writer old new (Some fault)
    → ((x : List ℕ) (at : IsAt (bare due.cutter) x (left_in due)) → CutsNow due x at
    → Puts due.cutter next (part_at at) (settled_part due.cutter x) (effect visible old new) (Some fault))
    → CutsShort visible due old new next fault
cut_stopped operands style leaves reaches = search rules

-- where the run stands after the cut
passed_state : (cutter : CutterState) {mid : CutterState} {writer : WriterState} {window : Window} {cut : CutPoint}
    → WentOn (record cutter { writer = writer; window = window }) cut mid
    → {operand : Operand} {operands : List Operand}
    → (state_in cutter).operands ≡ operand ∷ operands → state_of cutter.operands mid.progress
    ≡ state_after (suppress_in cutter) operand operands cutter.progress.repetition cut
passed_state cutter passed are = rw passed.same at (passed.state _ _ are)

-- the lines before the cut are written, and then the next section begins
next_goes : {visible : Bool} (cutter : CutterState) {mid : CutterState} {writer next : WriterState} {window : Window}
    {cut : CutPoint}
    {before : List ℕ} {opening : Opening} {old between new : List Slot} {fault : Option Fault}
    → WentOn (record cutter { writer = writer; window = window }) cut mid
    → Goes cutter.writer writer (with_bytes before) (effect visible old between) None
    → opening ≡ opening_of mid.style (kept_by (state_in mid).operands)
    → Goes mid.writer next (with_next opening) (effect visible between new) fault
    → Goes cutter.writer next (λ draft. with_next (opening_of cutter.style
    (kept_by (drop mid.progress.done cutter.operands))) (with_bytes before draft)) (effect visible old new) fault
next_goes cutter {before = before} passed went opening_is began = goes_again _ (λ draft. refl)
    (λ manner. bytes_begin manner before) went (rw passed.same at (rw opening_is at began))

-- the lines `before` of a cut are written
module _ {due : Due} (fit : IsFit due.cutter) (will : WillCut due.cutter due.cut) where
  -- the sections up to the cut, and the next section
  cut_draft : {x : List ℕ} {at : IsAt (bare due.cutter) x (left_in due)} (now : CutsNow due x at) (kept : Bool)
      → with_next (opening_of due.cutter.style kept) (with_bytes due.before (draft_at at))
      ≡ draft_by due.cutter.style (all_lines x) (at.steps ++ step_at due.cutter now.goes.its.operand due.cut ∷ []) kept
      []
  cut_draft {x} {at = at} now kept =
      let cutter = due.cutter in
      let n = due.cut.line - (cutter.progress.current + at.taken) in
      let count : at.taken + n ≡ due.cut.line - cutter.progress.current = omega (arith, now.low) in
      let are = now.goes.its.are in
      let bytes : at.written ++ due.before ≡ bytes_of (lines_between cutter.progress.current due.cut.line (all_lines x)) =
      written_on n fit.fits.some at now.before_is ∙ ap (λ n. first_lines newline n (text_from cutter.progress.current x)) count
      ∙ sym (bytes_between cutter.progress.current due.cut.line x) in
      let ended = flat_map (file_in cutter.style) (map (section_of (all_lines x)) at.steps) in
      let one : made_of (opening_of cutter.style (kept_by (state_in cutter).operands)) (at.written ++ due.before)
      ≡ file_in cutter.style (section_of (all_lines x) (step_at cutter now.goes.its.operand due.cut)) = search rules in
      ap (λ one. record { ended = ended ++ one; opening = opening_of cutter.style kept; bytes = [] }) one
      ∙ ap (λ those. record { ended = those; opening = opening_of cutter.style kept; bytes = [] })
      (search (rules, map-append, flat_map-append, append-nil))

  -- what is settled begins with the sections up to the cut
  cut_begins : {x : List ℕ} {at : IsAt (bare due.cutter) x (left_in due)} (now : CutsNow due x at)
      → Begins (draft_part (manner_of due.cutter.style) (with_next (opening_of due.cutter.style (kept_by (state_after
      (suppress_in due.cutter) now.goes.its.operand now.goes.its.operands due.cutter.progress.repetition
      due.cut).operands)) (with_bytes due.before (draft_at at)))) (settled_part due.cutter x)
  cut_begins {x} {at = at} now =
      let cutter = due.cutter in
      let state = state_after (suppress_in cutter) now.goes.its.operand now.goes.its.operands cutter.progress.repetition due.cut in
      let some : 1 ≤ state.current = (search (rules, line_some)) in
      let rest = runs_on cutter.style (all_lines x) state some in
      subst (λ draft. Begins (draft_part (manner_of cutter.style) draft) (settled_part cutter x))
      (sym (cut_draft now (kept_by state.operands)))
      (begun_by cutter.style cutter.operands _ rest (leads_on at due.cut now.goes _ rest))

  pub cut_put_stopped : {visible : Bool} {next : CutterState} {old new : List Slot} {fault : Fault}
      → next.operands ≡ due.cutter.operands → next.style ≡ due.cutter.style
      → Goes due.cutter.writer next.writer (with_bytes due.before) (effect visible old new) (Some fault)
      → CutsShort visible due old new next fault
  cut_put_stopped operands style goes = cut_stopped operands style goes.leaves
      (λ x at now. stops_wider (goes.reaches (manner_of due.cutter.style) (draft_at at) at.writes)
      (part_trans _ _ _ (search (rules, next_begins)) (cut_begins now)))

  pub cut_next_stopped : {visible : Bool} {mid : CutterState} {writer next : WriterState} {window : Window}
      {opening : Opening}
      {old between new : List Slot} {fault : Fault}
      → Goes due.cutter.writer writer (with_bytes due.before) (effect visible old between) None
      → WentOn (record due.cutter { writer = writer; window = window }) due.cut mid
      → opening ≡ opening_of mid.style (kept_by (state_in mid).operands)
      → Goes mid.writer next (with_next opening) (effect visible between new) (Some fault)
      → CutsShort visible due old new (record mid { writer = next }) fault
  cut_next_stopped went passed opening_is stops =
      let stopped = next_goes due.cutter passed went opening_is stops in
      cut_stopped (ap (λ (c : CutterState). c.operands) passed.same) (ap (λ (c : CutterState). c.style) passed.same)
      stopped.leaves (λ x at now. stops_wider (stopped.reaches (manner_of due.cutter.style) (draft_at at) at.writes)
      (rw (← (ap (λ (s : State). kept_by s.operands) (passed_state due.cutter passed now.goes.its.are))) at (cut_begins now)))

-- the next section began

rest_from : (suppress : Bool) {rest : List ℕ} (all : List ℕ) (cut : ℕ) (x : List ℕ) → 1 ≤ cut → all ≡ text_from cut x
    → (suppress ≡ true → rest ≡ after_lines newline 1 all) → (suppress ≡ false → rest ≡ all)
    → rest ≡ text_from (line_after suppress cut) x
rest_from true all cut x some is skipped whole = skipped refl ∙ ap (after_lines newline 1) is ∙ from_further cut 1 x some
    ∙ ap (λ n. text_from n x) (let e : cut + 1 ≡ suc cut = omega arith in e)
rest_from false all cut x some is skipped whole = whole refl ∙ is

-- What is left is the end of the lines.
end_of : (suppress : Bool) {left : List ℕ} (rest : List ℕ) → (suppress ≡ true → left ≡ after_lines newline 1 rest)
    → (suppress ≡ false → left ≡ rest) → IsEnd left rest
end_of true rest skipped whole = (
  first_lines newline 1 rest,
  sym (first_lines_then_rest newline 1 rest)
      ∙ ap (λ those. first_lines newline 1 rest ++ those) (sym (skipped refl)),
)
end_of false rest skipped whole = ([], sym (whole refl))

-- what follows the first lines
rest_after : (n : ℕ) (before rest : List ℕ) → before ≡ first_lines newline n (before ++ rest)
    → rest ≡ after_lines newline n (before ++ rest)
rest_after n before rest is = append_cancel_left before rest (after_lines newline n (before ++ rest))
    (sym (first_lines_then_rest newline n (before ++ rest))
    ∙ ap (λ those. those ++ after_lines newline n (before ++ rest)) (sym is))

module _ {visible : Bool} {due : Due} {mid : CutterState} {writer next : WriterState} {window : Window} {left : List ℕ}
    {opening : Opening} {old between new : List Slot} (fit : IsFit due.cutter) (will : WillCut due.cutter due.cut)
    (skipped : suppress_in due.cutter ≡ true → left ≡ after_lines newline 1 due.rest)
    (whole : suppress_in due.cutter ≡ false → left ≡ due.rest)
    (went : Goes due.cutter.writer writer (with_bytes due.before) (effect visible old between) None)
    (passed : WentOn (record due.cutter { writer = writer; window = window }) due.cut mid)
    (opening_is : opening ≡ opening_of mid.style (kept_by (state_in mid).operands))
    (began : Goes mid.writer next (with_next opening) (effect visible between new) None) where
  after_at : {x : List ℕ} {at : IsAt (bare due.cutter) x (left_in due)} (now : CutsNow due x at)
      → IsAfter visible due x (part_at at) old new (record mid { writer = next }) left
  after_at {x} {at} now =
      let cutter = due.cutter in
      let cut = due.cut in
      let both = next_goes cutter passed went opening_is began in
      let manner = manner_of cutter.style in
      let draft = draft_at at in
      let kept = kept_by (drop mid.progress.done cutter.operands) in
      let state = passed_state cutter passed now.goes.its.are in
      let current : mid.progress.current ≡ line_after (suppress_in cutter) cut.line = ap (λ (s : State). s.current) state in
      let n = cut.line - (cutter.progress.current + at.taken) in
      let left_after : due.rest ≡ text_from cut.line x = rest_after n due.before due.rest now.before_is
      ∙ left_on n fit.fits.some at
      ∙ ap (λ k. text_from k x) (let e : cutter.progress.current + at.taken + n ≡ cut.line = omega (arith, now.low) in e) in
      let drafts = cut_draft fit will now kept in
      let near : cutter.lines ≤ search_line (suppress_in cutter) (state_of cutter.operands mid.progress) =
      (let e : search_line (suppress_in cutter) (state_of cutter.operands mid.progress) ≡ search_after (suppress_in cutter) cut =
      (search rules) in let n = now.near in omega arith) in rw passed.same (record {
        now = record {
          steps = at.steps ++ step_at cutter now.goes.its.operand cut ∷ [];
          leads = search (rules, state, (leads_on at cut now.goes));
          counted = at.counted;
          taken = 0;
          written = [];
          few = omega arith;
          written_is = search (rules, first_lines-zero);
          left_is = rest_from (suppress_in cutter) due.rest cut.line x (omega (arith, now.low, fit.fits.some)) left_after skipped whole
              ∙ (search rules);
          writes = subst (Writes manner next) drafts (both.writes manner draft at.writes);
        };
        looked = record { counted = at.counted; last = now.last; others = search rules };
        near = near;
        none = refl;
        grows = subst (Begins (part_at at)) (ap (draft_part manner) drafts)
            (part_trans _ _ _ (bytes_begin manner due.before draft) (next_begins manner _ (with_bytes due.before draft)));
        reaches = reaches_as refl (sym (ap (draft_part manner) drafts)) (both.reaches manner draft at.writes);
      })

  pub cut_done : size_of next.current ≡ 0 → length left ≤ length due.rest
      → CutAt visible due old new (record mid { writer = next }) left
  cut_done empty shorter = record {
    fewer = passed.fewer;
    spreading = record {
      keeps = record {
        operands = search rules;
        style = search rules;
        writer = (next_goes due.cutter passed went opening_is began).leaves;
      };
      lines = search rules;
      fit = search rules;
      held = passed.held;
      after = λ x at now. after_at now;
      size = omega (arith, length-append due.before due.rest);
      end = end_of (suppress_in due.cutter) due.rest skipped whole;
    };
  }
