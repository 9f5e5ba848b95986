-- What opening the cutter leaves, what ending it does, and what the stage that takes in bytes owes.
use Rattle.std.proofs.{
  Common.{◌≡◌, inl, ◌+◌, ◌-◌, ◌≤◌, length, Bool, true, false, List, [], None, Option, Some, refl, sym, ◌∙◌},
  Common.{ap, arith, ℕ, ◌++◌, take, ◌<◌, nat_lt, get_or, rules, inr, ◌^◌, min, length-append, ◌⊎◌},
  Common.{Result, Ok, Err, IfErr, eqb, OnOk},
  lemmas.{List.{drop_all, length-drop, drop-map, append-nil}, Bool.Decides.nat_tests, Grind.common_steps},
}
use Rattle.seg_core.{
  specs.{Window.Window, Line.{line_count, delimiters, ends_with}},
  proofs.FirstLines.{first_lines-all, after_lines-is_drop, lines_of-after_lines},
}
use Rattle.ports_core.specs.{
  Slot.{effect, Slot},
  declared.{fault.Fault.{Fault, TheVariants.Memory}, verdict.Verdict.Verdict},
}
use Rattle.engine_core.specs.{
  declared.file_writer.Opening.{Opening, TheVariants.Never},
  inner.Written.HasLines,
  Draft.{Draft, draft_part, with_bytes, with_next, Manner},
  FileWriter.{paused, Goes, Leaves, At, WriterState, Writes, size_of, IsReady as CanWrite, IsManner, Breaks},
  FileWriter.{OwnsFiles, manner_in},
  Written.{OutputsAt, nothing, writes},
  Engine.{is_verdict, CutsOff, EndsWith, EndsThere, Finishes, StandsAt, IsMet, IsMetWith, IsMetThere, Sweeps},
  Swept.{AreThere, Swept},
}
use Rattle.engine_core.proofs.{
  WrittenLemmas.{nothing_begins_part, outputs_count, stopped_in_turn},
  ShareLemmas.{bytes_begin, next_begins, nothing_part},
  SlotSteps.none_past,
  FileWriterLemmas.{breaks_as, same_manner, in_turn, lacks_memory, reaches_as, stops_wider, in_any},
  FileWriterLemmas.{reaches_again, leaves_lacking, where_well},
  WriterSteps.{files_left, goes_again, goes_as},
  SweepLemmas.all_cleared,
}
use Rattle.csplit_core.proofs.{
  CutterLemmas.{draft_is, few_taken, left_count, written_on, settled_part_is, whole_part_is, runs_to, live_part},
  CutterLemmas.{live_taken, keeps_on, reaches_then, same_by, settled_same},
  TryLemmas.{attempt_ends, left_is},
  LineLemmas.{from_further, bytes_marked, open_unbroken, length-all_lines, all_complete, lines_then_open},
  LineLemmas.{all_lines-append, joined_line, open_complete, first_complete, lines_whole, lines_more, open_more},
  WholeLemmas.ends_after_all,
  TakeLemmas.{past_plan, past_part, is_past, still_past, more_settled, takes_again, takes_none, takes_wider},
  TakeLemmas.{took_past, none_there},
}
use Rattle.csplit_core.specs.{
  Csplit.{settled_of, verdict_of, waiting, csplit_means, csplit_work, verdict_by},
  Input.{newline, all_lines, open_line},
  Operand.{Operand, Line, Target, Number, Search},
  Output.{Style, manner_of, opening_of, sizes_wanted},
  Plan.{start, below, missed, above, Plan, CutPoint, past_last},
  Measure.Moves,
  Planned.plan,
  laws.{PlanLaws.{plan_runs, plan_once}, SectionLaws.{ends_as, are_within, closed_still, ends_with as whole_grows}},
  Progress.EndsHere,
  inner.Cutter.{BegunNot, draft_at, plan_in, new_for, writer_for, AreSeen, AgreesWithPlan, MovesOn, Opened},
  inner.Cutter.{settled_part, whole_part, IsJudged, EndsAll, IsWhole, Takes, IsLine, Clears, Keeps, Closed, Closes},
  inner.Cutter.{ended_so, Judges, Passes, ended_well, ended_short},
  inner.PlanLaws.{EndsAs, AreWithin},
  Section.{is_final, whole_end, whole_sections},
  declared.progress.{Progress.Progress, Attempt.{Attempt, TheVariants.{Below, Missed, Above}}},
  Cutter.{CutterState, most_by, pattern_by, kept_by, settled_draft, IsFit, Stands, state_in, IsLive},
  Cutter.{IsPast, IsSound},
  CsplitState.{CsplitState, Holds, whole_lines, IsReady, Owns, terms, files, work},
}
use Rattle.ports_core.specs.declared.fault.Fault.TheVariants as fault_is
use Rattle.engine_core.specs.Engine as engine

-- What opening the cutter leaves: the first section, without a line yet.

-- the first section without a byte is what is settled

abbrev nothing_yet : Draft
nothing_yet = record { ended = []; opening = Never; bytes = [] }

abbrev first_draft : Style → Bool → Draft
first_draft style kept = with_next (opening_of style kept) nothing_yet

first_settled : (style : Style) (operands : List Operand)
    → first_draft style (kept_by operands) ≡ settled_draft style operands []
first_settled style operands = search rules

pub first_part : (style : Style) (operands : List Operand)
    → draft_part (manner_of style) (first_draft style (kept_by operands)) ≡ settled_of style operands []
first_part style operands = search (rules, first_settled, settled_part_is)

-- a new writer makes files in the style's manner, as far as 64 bits count files
first_manner : (style : Style) → IsManner (manner_of style) (manner_in (writer_for style))
first_manner style = search rules

first_owns : (style : Style) {slots : List Slot} → 2 ≤ length slots → OwnsFiles (writer_for style) (length slots) slots
first_owns style two = grind (arith, common_steps)

-- a new writer has been given nothing
first_writes : (style : Style) → Writes (manner_of style) (writer_for style) nothing_yet
first_writes style = search (rules, first_manner)

-- The first attempt, before any line came in.

abbrev pub first_progress : Progress
first_progress = record { done = 0; repetition = 0; current = 1; matched = 0 }

abbrev SaysFirst : Style → List Operand → Attempt → Type 0
SaysFirst style operands attempt = (lines : List Line) → AreSeen style.suppress lines 0 (start operands) false →
    AgreesWithPlan style lines (start operands) attempt

no_first_cut : (style : Style) (operands : List Operand) (target : Target) (cut : CutPoint)
    → Moves 0 (start operands) target cut → 1 ≤ cut.line → cut.line ≤ past_last style target → ⊥
no_first_cut style operands (Number n) cut moves some within = omega arith
no_first_cut style operands (Search pattern kept offset) cut moves some within = omega arith

first_ends : {style : Style} (operands : List Operand) {attempt : Attempt} → SaysFirst style operands attempt
    → MovesOn style operands 0 first_progress attempt → EndsHere style [] (start operands) attempt
first_ends operands {attempt} says moves = search (rules, attempt_ends, no_first_cut)

-- The cutter that was opened

abbrev first_cutter : List Operand → Style → WriterState → Attempt → CutterState
first_cutter operands style writer aim = record {
  operands = operands;
  style = style;
  writer = writer;
  progress = first_progress;
  aim = aim;
  lines = 0;
  window = record { most = most_by operands; delim = newline; held = [] };
  sought = pattern_by operands;
}

first_stands : (operands : List Operand) (style : Style) {writer : WriterState} {aim : Attempt}
    → Writes (manner_of style) writer (first_draft style (kept_by operands))
    → (ends : EndsHere style [] (start operands) aim) → (final : Bool) → is_final ends.ending ≡ final
    → Stands (first_cutter operands style writer aim) []
first_stands operands style writes ends false live = inl (record {
  at = record {
    steps = [];
    leads = λ rest run. run;
    counted = refl;
    taken = 0;
    written = [];
    few = omega arith;
    written_is = refl;
    left_is = refl;
    writes = writes;
  };
  ends = ends;
  live = live;
  settled = omega arith;
})
first_stands operands style writes ends true past = search (rules, plan_once, first_settled)

pub first_opened : (visible : Bool) {style : Style} {operands : List Operand} {old new : List Slot}
    {writer : WriterState}
    (aim : Attempt) → 2 ≤ length old
    → Goes (writer_for style) writer (with_next (opening_of style (kept_by operands))) (effect visible old new) None
    → size_of writer.current ≡ 0 → SaysFirst style operands aim → MovesOn style operands 0 first_progress aim
    → Opened visible style operands old new (first_cutter operands style writer aim)
first_opened visible {style} {operands} {old} {new} {writer} aim two begun none says moves =
    let ends = first_ends operands says moves in
    let none' : size_of writer.current + 0 ≡ 0 = omega arith in record {
      asked = refl;
      operands_are = refl;
      stands = first_stands operands style (begun.writes (manner_of style) nothing_yet (first_writes style)) ends (is_final ends.ending) refl;
      reaches = reaches_as (sym (nothing_part (sizes_wanted style))) (sym (first_part style operands))
          (begun.reaches (manner_of style) nothing_yet (first_writes style));
      owns = begun.leaves.owns.owns (length old) (first_owns style two);
      ready = begun.leaves.ready;
      output = begun.leaves.output;
      manner = rw (same_manner begun.leaves) (first_manner style);
      all = begun.leaves.keeps;
      sound = search rules;
      size = search rules;
    }

-- What `open` returns once the next operand was looked up.

-- the writer that was made goes on
pub made_goes : {visible : Bool} (style : Style) {first next : WriterState} {change : Draft → Draft}
    {old new : List Slot}
    {fault : Option Fault} → first ≡ new_for style → Goes (paused first) next change (effect visible old new) fault
    → Goes (writer_for style) next change (effect visible old new) fault
made_goes style is goes = rw is at goes

pub begun_not : {visible : Bool} {style : Style} {opening : Opening} {old new : List Slot} {next : WriterState}
    {f : Fault}
    → 2 ≤ length old → Goes (writer_for style) next (with_next opening) (effect visible old new) (Some f)
    → next.files ≡ []
    → BegunNot visible style (draft_part (manner_of style) (with_next opening nothing_yet)) old new f
begun_not {style = style} {old = old} {new} {f = f} two goes none = record {
  reaches = reaches_as (sym (nothing_part (sizes_wanted style))) refl
      (record { there = (goes.reaches (manner_of style) nothing_yet (first_writes style)).there });
  breaks = breaks_as old new f (first_manner style) goes.leaves.slots;
  none = λ place past. rw none at ((goes.leaves.owns.owns (length old) (first_owns style two)).own goes.leaves.keeps place past);
}

-- if there is no memory, nothing was done
pub opened_lacks : (visible : Bool) {style : Style} (operands : List Operand) {slots : List Slot} {fault : Fault}
    → fault ≡ Memory → BegunNot visible style (settled_of style operands []) slots slots fault
opened_lacks visible operands lacks = search (rules, stops_wider, in_turn, nothing_begins_part, none_past)

-- What ending the cutter leaves: all lines that waited belong to the last section, which ends. It also finds the
-- verdict of the work.

-- Before the end, what is settled is written. With the lines that wait, that is the whole.
record LastDraft (cutter : CutterState) (x : List ℕ) : Type 0 where
  draft : Draft
  writes : Writes (manner_of cutter.style) cutter.writer draft
  settled : draft_part (manner_of cutter.style) draft ≡ settled_part cutter x
  whole : draft_part (manner_of cutter.style) (with_next Never (with_bytes cutter.window.held draft))
      ≡ whole_part cutter x

live_draft : {cutter : CutterState} {x : List ℕ} → IsFit cutter → IsLive cutter x → LastDraft cutter x
live_draft {cutter} {x} fit live =
    let n = line_count newline cutter.window.held in
    let some = fit.fits.some in record {
      draft = draft_at live.at;
      writes = live.at.writes;
      settled = live_part live;
      whole = ap (λ draft. draft_part (manner_of cutter.style) (with_next Never draft))
          (draft_is whole_end cutter.style cutter.operands x (live.at.taken + n) (runs_to live.at live.ends)
          (omega (arith, left_count live.at, few_taken live.at, ends_after_all (line_count newline x) live.ends.ending live.live))
          (search (rules, written_on, first_lines-all)))
          ∙ whole_part_is cutter.style cutter.operands (all_lines x);
    }

past_draft : {cutter : CutterState} {x : List ℕ} → IsPast cutter x → LastDraft cutter x
past_draft past = search (rules, settled_part_is, whole_part_is)

last_draft : {cutter : CutterState} {x : List ℕ} → IsFit cutter → Stands cutter x → LastDraft cutter x
last_draft fit fact = search (rules, live_draft, past_draft)

-- How the plan ends

-- What `end` does: the lines that wait are written, and then the section ends.

all_held : (cutter : CutterState) {n : ℕ} → n ≡ length cutter.window.held
    → take n cutter.window.held ≡ cutter.window.held
all_held cutter all = grind (arith, common_steps)

pub end_goes : {visible : Bool} {cutter : CutterState} {between next : WriterState} (window : Window) {n : ℕ}
    {old mid new : List Slot} {fault : Option Fault} → IsFit cutter → n ≡ length cutter.window.held
    → Goes cutter.writer between (with_bytes (take n cutter.window.held)) (effect visible old mid) None
    → Goes between next (with_next Never) (effect visible mid new) fault
    → EndsAll visible cutter old new (record cutter { writer = next; window = window }) fault
end_goes {cutter = cutter} window {fault = fault} fit all goes ends =
    let both = goes_again (λ draft. with_next Never (with_bytes cutter.window.held draft)) (λ draft. refl)
    (λ manner. bytes_begin manner cutter.window.held) (goes_as (all_held cutter all) goes) ends in record {
      keeps = search rules;
      reaches = λ x stands. let last = last_draft fit stands in
          reaches_as (sym last.settled) (sym last.whole) (search rules);
      judged = in_any fault (λ x stands. search (rules, plan_once, runs_to));
    }

pub end_short : {visible : Bool} {cutter : CutterState} {next : WriterState} {window : Window} {n : ℕ}
    {old new : List Slot} {fault : Fault} → IsFit cutter → n ≡ length cutter.window.held
    → Goes cutter.writer next (with_bytes (take n cutter.window.held)) (effect visible old new) (Some fault)
    → EndsAll visible cutter old new (record cutter { writer = next; window = window }) (Some fault)
end_short {cutter = cutter} fit all goes =
    let stopped = goes_as (all_held cutter all) goes in record {
      keeps = search rules;
      reaches = λ x stands. let last = last_draft fit stands in
          reaches_as (sym last.settled) (sym last.whole) (stops_wider
          (stopped.reaches (manner_of cutter.style) last.draft last.writes) (search (rules, next_begins)));
      judged = tt;
    }

-- The verdict with which the work ends, by the cutter's state.

of_it : {cutter : CutterState} {x : List ℕ} → IsJudged cutter x
    → EndsAs cutter.style (all_lines x) (state_in cutter) (plan_in cutter x).ending
of_it {cutter} {x} judged =
    rw (← judged.last) at (ends_as (plan_runs cutter.style cutter.operands (all_lines x)))

-- the verdict on the next operand, by its last attempt
abbrev pub verdict_at : Attempt → Operand → ℕ → Option Verdict
verdict_at Missed operand repetition = verdict_of (missed operand repetition)
verdict_at (Above cut) operand repetition = verdict_of (above operand repetition cut)
verdict_at Below operand repetition = verdict_of (below operand repetition)
verdict_at attempt operand repetition = None

-- What `verdict` returns

pub judged_none : {cutter : CutterState} {result : Option Verdict} {x : List ℕ}
    → false ≡ nat_lt cutter.progress.done (length cutter.operands) → result ≡ None → IsJudged cutter x
    → result ≡ verdict_of (plan_in cutter x).ending
judged_none over none judged = search (rules, nat_tests, of_it, drop_all)

-- the operand that was looked up is the next operand
pub judged_next : {cutter : CutterState} {operand : Operand} {aim : Attempt} {result : Option Verdict} {x : List ℕ}
    → cutter.progress.done < length cutter.operands → operand ≡ get_or cutter.operands cutter.progress.done operand
    → cutter.aim ≡ aim → result ≡ verdict_at aim operand cutter.progress.repetition → IsJudged cutter x
    → result ≡ verdict_of (plan_in cutter x).ending
judged_next within here aimed made judged = search (rules, of_it, left_is)

-- How many bytes wait.

-- the lines that the cutter holds are the end of the complete lines
held_within : {cutter : CutterState} {x : List ℕ} → IsLive cutter x → length cutter.window.held ≤ length x
held_within {cutter} {x} live = search (rules, after_lines-is_drop, length-drop)

live_waiting : (stage : CsplitState) (x : List ℕ) (live : IsLive stage.cutter (whole_lines x))
    → stage.rest ≡ open_line x
    → waiting stage.cutter.style stage.cutter.operands x ≡ stage.cutter.window.held ++ stage.rest
live_waiting stage x live rest_is = search (
  rules,
  all_complete,
  plan_once,
  runs_to,
  are_within,
  length-all_lines,
  live_taken,
  drop-map,
  bytes_marked,
  lines_of-after_lines,
  from_further,
)

pub held_is : {stage : CsplitState} {x : List ℕ} {result : ℕ} → Holds stage x → length x < 2 ^ 63
    → result ≡ min (length stage.cutter.window.held + length stage.rest) (2 ^ 64 - 1)
    → result ≡ length (waiting stage.cutter.style stage.cutter.operands x)
held_is {stage} {x} {result} holds few is = by holds.stands where
  by : Stands stage.cutter (whole_lines x) → result ≡ length (waiting stage.cutter.style stage.cutter.operands x)
  by (inl live) =
      let rest_is = holds.live (λ below. (search rules)) in
      let all : length (whole_lines x) + length (open_line x) ≡ length x = sym (length-append (whole_lines x) (open_line x))
      ∙ ap length (lines_then_open) in
      let rest_long : length stage.rest ≡ length (open_line x) = ap length rest_is in
      let long : length (waiting stage.cutter.style stage.cutter.operands x)
      ≡ length stage.cutter.window.held + length stage.rest = search (rules, live_waiting, length-append) in
      omega (arith, held_within live)
  by (inr past) =
      let long : length (waiting stage.cutter.style stage.cutter.operands x) ≡ 0 = search (rules, all_complete) in
      omega (arith, ap length past.none, ap length (holds.past past.aim))

-- What the stage that takes in bytes does with the cutter of lines.

-- Want of memory

pub takes_lacking : {visible : Bool} {cutter next : CutterState} {t : List ℕ} {old new : List Slot}
    → Takes visible cutter t old new next None → Takes visible cutter t old new next (Some Memory)
takes_lacking {cutter = cutter} {t = t} took = record {
  keeps = search (rules, keeps_on, leaves_lacking);
  reaches = λ x whole stands. reaches_again (more_settled cutter t whole) (took.reaches x whole stands)
      (let is = sym (settled_part_is cutter.style cutter.operands (all_lines (x ++ t))) in reaches_as is is
      (lacks_memory (manner_of cutter.style) _ (λ place less. refl)));
  went = tt;
}

-- The end

pub closed_on : {visible : Bool} {stage : CsplitState} (last : CsplitState) {next : CsplitState} {two : CutterState}
    {old mid new : List Slot} {fault : Option Fault} → two ≡ last.cutter
    → Takes visible stage.cutter stage.rest old mid last.cutter None → EndsAll visible two mid new next.cutter fault
    → Closed visible stage old new next fault
closed_on {stage = stage} last {fault = fault} is took second = let first = rw (← is) at took in record {
  keeps = keeps_on first.keeps second.keeps;
  reaches = λ x front stands. reaches_then first.keeps.style (more_settled stage.cutter stage.rest front) (first.reaches x front stands)
      (reaches_as (search (rules, settled_same)) (search (rules, same_by)) (second.reaches (x ++ stage.rest) (first.went.stands x front stands)));
  judged = where_well fault second.judged (λ judged x front stands. judged (x ++ stage.rest) (first.went.stands x front stands));
}

-- the open line could not be taken in
pub closed_short : {visible : Bool} {stage next : CsplitState} {old new : List Slot} {fault : Fault}
    → Takes visible stage.cutter stage.rest old new next.cutter (Some fault)
    → Closed visible stage old new next (Some fault)
closed_short {stage = stage} stopped = record {
  keeps = stopped.keeps;
  reaches = λ x front stands. stops_wider
      (stopped.reaches x front stands) (rw (append-nil (all_lines (x ++ stage.rest))) at
      (whole_grows stage.cutter.style stage.cutter.operands (all_lines (x ++ stage.rest)) []));
  judged = tt;
}

-- If later input goes nowhere, it changes nothing of the end either.

final_sections : (a b : List Line) (p : Plan) → AreWithin (length a) p.steps → is_final p.ending ≡ true
    → whole_sections (a ++ b) p ≡ whole_sections a p
final_sections a b p within final = search (rules, closed_still)

pub past_end : {cutter : CutterState} {x : List ℕ} (t : List ℕ) → IsWhole x → IsPast cutter x
    → whole_part cutter (x ++ t) ≡ whole_part cutter x
past_end {cutter} {x} t whole past = grind (
  arith,
  common_steps,
  past_plan
      cutter.style cutter.operands t whole past.past,
  all_lines-append t (inl whole),
  final_sections
      (all_lines x) (all_lines t) (plan_in cutter x) (are_within (plan_runs cutter.style cutter.operands
      (all_lines x)) (omega arith)).0 past.past,
)

-- The steps of the stage that takes in bytes. A stage is known by its fields and by its view.

-- the open line and its end are a line

pub line_at : {before stage : CsplitState} {text : List ℕ} (end : List ℕ) → before ≡ stage → text ≡ before.rest ++ end
    → delimiters newline stage.rest ≡ 0 → IsLine end → IsLine text
line_at end is text_is none line = search (rules, joined_line)

pub lacks_at : {visible : Bool} {before stage : CsplitState} (t : List ℕ) {slots : List Slot} → before ≡ stage
    → IsSound stage.cutter → CanWrite stage.cutter.writer slots
    → Takes visible stage.cutter t slots slots before.cutter (Some Memory)
lacks_at t is sound ready = rw is (takes_wider t (inl refl) (takes_lacking (takes_none sound ready)))

-- the first line was taken in, and then the other lines

lines_from : {visible : Bool} {before stage : CsplitState} {next : CutterState} {lines : List ℕ} (end others : List ℕ)
    {old new : List Slot} {fault : Option Fault}
    → before ≡ stage → lines ≡ end ++ others
    → Takes visible before.cutter ((before.rest ++ end) ++ others) old new next fault
    → Takes visible stage.cutter (stage.rest ++ lines) old new next fault
lines_from end others same is takes = grind (arith, common_steps)

-- no line was open
pub lines_alone : {visible : Bool} {before stage : CsplitState} {next : CutterState} {lines : List ℕ} {n : ℕ}
    {old new : List Slot} {fault : Option Fault} → before ≡ stage → n ≡ length before.rest → eqb n 0 ≡ true
    → Takes visible before.cutter lines old new next fault
    → Takes visible stage.cutter (stage.rest ++ lines) old new next fault
lines_alone is size empty takes = grind (arith, common_steps)

module _ {visible : Bool} {before stage : CsplitState} {lines text : List ℕ} (end : List ℕ) {others : List ℕ}
    (same : before ≡ stage) (text_is : text ≡ before.rest ++ end) (is : lines ≡ end ++ others)
    (last : ends_with newline end ≡ false → others ≡ []) (whole : ends_with newline lines ≡ true) where
  pub lines_stop : {next : CutterState} {old new : List Slot} {fault : Fault}
      → Takes visible before.cutter text old new next (Some fault)
      → Takes visible stage.cutter (stage.rest ++ lines) old new next (Some fault)
  lines_stop stopped =
      lines_from end others same is (takes_wider others (open_complete before.rest end (first_complete end last is whole)) (rw text_is at stopped))

  pub lines_after : {mid next : CutterState} {old between new : List Slot} {fault : Option Fault}
      → Takes visible before.cutter text old between mid None → Takes visible mid others between new next fault
      → Takes visible stage.cutter (stage.rest ++ lines) old new next fault
  lines_after first second =
      lines_from end others same is (takes_again (open_complete before.rest end (first_complete end last is whole)) (rw text_is at first) second)

-- A piece

pub past_passes : {visible : Bool} {view stage : CsplitState} {taken : ℕ} {piece : List ℕ} {slots : List Slot}
    → view ≡ stage
    → view.cutter.aim ≡ Below → CanWrite stage.cutter.writer slots → IsSound stage.cutter
    → delimiters newline stage.rest ≡ 0
    → Passes visible stage piece slots slots (record view { taken = taken }) (Ok tt)
past_passes {stage = stage} is aim ready sound unbroken =
    let aimed : stage.cutter.aim ≡ Below = search rules in
    rw is (record {
      took = took_past aimed sound ready;
      passed = search rules;
    })

pub below_or_not : (attempt : Attempt) → (attempt ≡ Below) ⊎ (attempt ≡ Below → ⊥)
below_or_not attempt = search rules

-- the bytes that are kept of the open line
kept_open : {A : Type 0} (tail after : List ℕ) → delimiters newline tail ≡ 0 → A ⊎ (A → ⊥) → (A → after ≡ [])
    → ((A → ⊥) → after ≡ tail) → (delimiters newline after ≡ 0) × (length after ≤ length tail)
kept_open tail after none fact past live = grind (arith, common_steps)

-- complete lines were taken in, and what follows these lines waits
pub passes_on : {visible : Bool} {view stage : CsplitState} (next : CsplitState) {mid : CutterState}
    {piece lines rest : List ℕ} (text : List ℕ) {old new : List Slot} (result : Result (Unit {0}) Fault) → view ≡ stage
    → (view.cutter.aim ≡ Below → ⊥) → whole_lines (view.rest ++ piece) ≡ lines
    → Takes visible view.cutter lines old new mid None → next.cutter ≡ mid → (mid.aim ≡ Below → rest ≡ [])
    → open_line (view.rest ++ piece) ≡ rest ++ text → OnOk result (mid.aim ≡ Below → next.rest ≡ rest)
    → OnOk result ((mid.aim ≡ Below → ⊥) → next.rest ≡ rest ++ text) → IfErr result (λ fault. fault ≡ Memory)
    → Passes visible stage piece old new next result
passes_on {view = view} next {mid} {piece} end (Ok done) is differs lines_are took cutter none open_is past live lacks =
    let text = view.rest ++ piece in
    let rest = kept_open (open_line text) next.rest (open_unbroken text) (below_or_not mid.aim)
    (λ is_below. past is_below ∙ none is_below) (λ other. live other ∙ sym open_is) in rw (← is, cutter) (record {
      took = rw lines_are took;
      passed = record {
        live = λ other. live other ∙ sym open_is;
        past = search rules;
        still = λ is_below. absurd (differs is_below);
        unbroken = rest.0;
        size = omega (
          arith,
          sym (length-append view.rest piece) ∙ ap length (sym lines_then_open) ∙ length-append
              (whole_lines text) (open_line text),
          ap length lines_are,
        );
      };
    })
passes_on next end (Err fault) is differs lines_are took cutter none open_is past live lacks =
    rw (← is, cutter) (record { took = rw (lines_are, lacks) (takes_lacking took); passed = tt })

-- The last line

pub last_none : {visible : Bool} {before stage : CsplitState} {n : ℕ} {slots : List Slot} → before ≡ stage
    → n ≡ length before.rest → eqb n 0 ≡ true → CanWrite stage.cutter.writer slots → IsSound stage.cutter
    → Takes visible stage.cutter stage.rest slots slots stage.cutter None
last_none is size empty ready sound =
    rw (ap (λ (s : CsplitState). s.rest) (sym is) ∙ none_there (ap (λ k. eqb k 0) size) empty) (takes_none sound ready)

-- What the stage that takes in bytes owes.

-- what is settled of the bytes that came in

settled_is : (stage : CsplitState) (x : List ℕ) → settled_part stage.cutter (whole_lines x) ≡ (work stage).settled x
settled_is stage x = search (rules, all_complete)

lines_in : (rest x piece : List ℕ) → rest ≡ open_line x
    → whole_lines x ++ whole_lines (rest ++ piece) ≡ whole_lines (x ++ piece)
lines_in rest x piece is = search (rules, lines_more)

settled_then : {stage : CsplitState} {x : List ℕ} (piece : List ℕ) → Holds stage x
    → settled_part stage.cutter (whole_lines x ++ whole_lines (stage.rest ++ piece)) ≡ (work stage).settled (x ++ piece)
settled_then {stage} {x} piece holds = elim (below_or_not stage.cutter.aim) [
  | inl is_below ↦ sym (search (rules, past_part, lines_whole, is_past))
      ∙ past_part (whole_lines (open_line x ++ piece)) (lines_whole x) (is_past is_below holds.stands)
      ∙ ap (settled_part stage.cutter) (sym (lines_more x piece)) ∙ settled_is stage (x ++ piece)
  | inr differs ↦ ap (settled_part stage.cutter) (lines_in stage.rest x piece (holds.live differs)) ∙ settled_is stage (x ++ piece)
]

-- the stage's outputs stay its own
pub owns_on : {stage next : CsplitState} {old new : List Slot} {fault : Option Fault}
    → Leaves stage.cutter.writer next.cutter.writer old new fault → (first : ℕ) → Owns stage first old
    → Owns next first new
owns_on leaves first own = search rules

-- the outputs have what is settled, and the writer's files are its own
stands_so : (visible : Bool) {before : List Slot} {stage : CsplitState} {x : List ℕ} {now : List Slot}
    → StandsAt terms stage visible before x now
    → At visible stage.cutter.writer before (settled_part stage.cutter (whole_lines x)) now
stands_so visible at = search (rules, settled_is)

-- Faults

not_verdict : (style : Style) (old new : List Slot) (fault : Fault) {own : Manner} → IsManner (manner_of style) own
    → Breaks own old new fault → is_verdict fault ≡ false
not_verdict style old new fault same breaks = search rules

met_by : {Lacks : Type 0} → Lacks → (Ends : Verdict → Type 0) (style : Style) (old new : List Slot) (fault : Fault)
    {own : Manner} → IsManner (manner_of style) own → Breaks own old new fault
    → IsMet (csplit_means style) (record { memory = true; files = true }) Lacks Ends old new fault
met_by lacks Ends style old new fault same breaks = search rules

-- a piece was taken in

holds_by : {visible : Bool} {stage next : CsplitState} {piece : List ℕ} {old new : List Slot} {x : List ℕ}
    → Passes visible stage piece old new next (Ok tt) → Holds stage x
    → (stage.cutter.aim ≡ Below) ⊎ (stage.cutter.aim ≡ Below → ⊥) → Holds next (x ++ piece)
holds_by {piece = piece} {x} passed holds (inl is_below) = record {
  stands = inr (rw (passed.passed.still is_below, lines_more x piece)
      (search (rules, still_past, lines_whole, is_past)));
  live = search rules;
  past = search rules;
}
holds_by {stage = stage} {next} {piece} {x} passed holds (inr differs) = record {
  stands = rw (lines_in stage.rest x piece (holds.live differs)) at (passed.took.went.stands (whole_lines x) (lines_whole x) holds.stands);
  live = λ other. passed.passed.live other ∙ ap (λ those. open_line (those ++ piece)) (holds.live differs) ∙ sym (open_more x piece);
  past = search rules;
}

-- standard output has the sizes of the files that are settled
has_settled : (stage : CsplitState) (x : List ℕ)
    → HasLines (sizes_wanted stage.cutter.style) (settled_part stage.cutter x).out (settled_part stage.cutter x).files
has_settled stage x = search rules

-- why a fault came as a piece was taken in

pub passes_by : (visible : Bool) (stage next : CsplitState) (piece : List ℕ) (old new : List Slot)
    (result : Result (Unit {0}) Fault) → Passes visible stage piece old new next result → IsReady stage old
    → next.taken ≡ stage.taken + length piece → stage.taken + length piece < 2 ^ 63
    → engine.Passes terms piece stage next (effect visible old new) (IsMetWith terms piece stage) result
passes_by visible stage next piece old new (Ok done) passes is_ready taken fits = record {
  same = same_by csplit_work passes.took.keeps;
  size = omega arith;
  holds = λ x holds. holds_by passes holds (below_or_not stage.cutter.aim);
  outputs = λ before x at. rw (settled_then piece at.holds) at
      ((passes.took.reaches (whole_lines x) (lines_whole x) at.holds.stands).there before (stands_so visible at)).outputs;
  ready = search (rules, same_manner);
  owns = owns_on passes.took.keeps.writer;
  there = passes.took.keeps.writer.owns.there;
  cut = tt;
  met = tt;
}
passes_by visible stage next piece old new (Err fault) stopped is_ready taken fits = record {
  same = same_by csplit_work stopped.took.keeps;
  size = omega arith;
  holds = tt;
  outputs = tt;
  ready = tt;
  owns = owns_on stopped.took.keeps.writer;
  there = stopped.took.keeps.writer.owns.there;
  cut = λ before x at. engine.cut (search (rules, not_verdict))
      (rw (settled_then piece at.holds, settled_is stage x) at
      (stopped_in_turn (work stage).means.output visible before _ _ fault new (has_settled stage (whole_lines x))
      ((stopped.took.reaches (whole_lines x) (lines_whole x) at.holds.stands).there before (stands_so visible at))));
  met = search (rules, met_by);
}

-- the end of the input

module _ (stage : CsplitState) (x : List ℕ) (holds : Holds stage x) where
  -- a statement on all lines, if lines past the plan's end change nothing
  all_then : {A : Type 0} (f : List ℕ → A)
      → ((t : List ℕ) → IsPast stage.cutter (whole_lines x) → f (whole_lines x ++ t) ≡ f (whole_lines x))
      → (stage.cutter.aim ≡ Below) ⊎ (stage.cutter.aim ≡ Below → ⊥) → f (whole_lines x ++ stage.rest) ≡ f x
  all_then f past (inl is_below) = let is = is_past is_below holds.stands in past stage.rest is ∙ sym (past (open_line x) is) ∙ ap f (lines_then_open)
  all_then f past (inr differs) = search (rules, lines_then_open)

  pub whole_then : whole_part stage.cutter (whole_lines x ++ stage.rest) ≡ (work stage).whole x
  whole_then = all_then (whole_part stage.cutter) (λ t. past_end t (lines_whole x)) (below_or_not stage.cutter.aim)

  pub verdict_then : {next : CutterState} {old new : List Slot} {fault : Option Fault}
      → Keeps stage.cutter next old new fault
      → verdict_of (plan next.style next.operands (all_lines (whole_lines x ++ stage.rest))).ending
      ≡ (work stage).verdict x
  verdict_then keeps =
      same_by (λ style operands. verdict_by style operands (whole_lines x ++ stage.rest)) keeps
      ∙ all_then (verdict_by stage.cutter.style stage.cutter.operands)
      (λ t. search (rules, past_plan, lines_whole)) (below_or_not stage.cutter.aim)

module _ (visible : Bool) (stage next : CsplitState) (old new : List Slot) where
  pub judged_then : Closed visible stage old new next None → {verdict : Option Verdict} → Judges next.cutter verdict
      → {x : List ℕ} → Holds stage x → verdict ≡ (work stage).verdict x
  judged_then closed judges {x} holds = judges (whole_lines x ++ stage.rest) (search (rules, lines_whole)) ∙ verdict_then stage x holds closed.keeps

  pub whole_out : Closed visible stage old new next None → {before : List Slot} {x : List ℕ}
      → StandsAt terms stage visible before x old → OutputsAt visible before ((work stage).whole x) new
  whole_out closed {before} {x} at =
      rw (whole_then stage x at.holds) at ((closed.reaches (whole_lines x) (lines_whole x) at.holds.stands).there before (stands_so visible at)).outputs

  pub ends_there : Closed visible stage old new next None → {verdict : Verdict} → Judges next.cutter (Some verdict)
      → EndsThere terms stage verdict
  ends_there closed judges x holds = sym (judged_then closed judges holds)

  pub ends_short : {fault : Fault} → Closed visible stage old new next (Some fault) → IsReady stage old
      → CutsOff terms stage (work stage).whole (effect visible old new) fault
  ends_short {fault} stopped ready before x at = engine.cut (search (rules, not_verdict))
      (rw (whole_then stage x at.holds, settled_is stage x) at
      (stopped_in_turn (work stage).means.output visible before _ _ fault new (has_settled stage (whole_lines x))
      ((stopped.reaches (whole_lines x) (lines_whole x) at.holds.stands).there before (stands_so visible at))))

  -- the work ended with a verdict, and the files were removed after that
  pub ends_judged : Closed visible stage old new next None → {verdict : Verdict} → (cleared : List Slot)
      → ((first : ℕ) → Owns next first new → Swept (work next).clears first new cleared)
      → CutsOff terms stage (work stage).whole (effect visible old cleared) (fault_is.Verdict verdict)
  ends_judged closed cleared swept before x at =
      engine.judged refl new (whole_out closed at)
      (search (rules, owns_on))

-- the contract of the end, however the end went
pub finishes_by : (visible : Bool) (stage next : CsplitState) (old new : List Slot) {result : Result (Unit {0}) Fault}
    → Closes visible stage old new next result → IsReady stage old → next.taken ≤ stage.taken
    → Finishes terms stage next (effect visible old new) (IsMetThere terms stage) result
finishes_by visible stage next old new (ended_well closed none) is_ready few = record {
  same = same_by csplit_work closed.keeps;
  size = few;
  well = λ x holds. sym (judged_then visible stage next old new closed none holds);
  outputs = search (rules, whole_out);
  writable = search rules;
  owns = owns_on closed.keeps.writer;
  there = closed.keeps.writer.owns.there;
  cut = tt;
  met = tt;
}
finishes_by visible stage next old new (ended_short fault stopped) is_ready few = search (rules, same_by, owns_on, ends_short, met_by)
finishes_by visible stage next old new (ended_so verdict mid reached closed judges swept) is_ready few = record {
  same = swept.same ∙ same_by csplit_work closed.keeps;
  size = few;
  well = tt;
  outputs = tt;
  writable = tt;
  owns = search (rules, owns_on);
  there = λ are. swept.there;
  cut = search (rules, ends_judged);
  met = ends_there visible stage mid old reached closed judges;
}

-- if nothing was written yet, the outputs are those of a new writer
pub none_stands : (visible : Bool) (style : Style) {before slots : List Slot} → 2 ≤ length slots
    → OutputsAt visible before nothing slots → At visible (writer_for style) before nothing slots
none_stands visible style {before} {slots} two at =
    record {
      owns = rw (let e : length slots ≡ length before = omega (
        arith,
        outputs_count visible before nothing slots
            at,
      ) in e) at (first_owns style two);
      outputs = at;
    }

-- The files are removed.

pub sweeps : {view : CutterState} (stage next : CsplitState) {old new : List Slot} → view ≡ stage.cutter
    → next.taken ≡ stage.taken → Clears view old new next.cutter → stage.cutter.style.keep ≡ false
    → AreThere (files stage) old → Sweeps terms stage next old new
sweeps stage next {old} {new} is taken clears_view none are =
    let clears = rw is at clears_view in
    let kept = files_left (ap (λ (c : CutterState). c.writer.keeps) clears.same)
    (ap (λ (c : CutterState). c.writer.current) clears.same) clears.removes in record {
      same = search rules;
      size = omega arith;
      removes = rw none clears.removes;
      swept = λ first own. rw none (all_cleared first (files stage)
          (files next) old new clears.removes own.writer.there own.writer.from (own.writer.own own.all));
      owns = λ first own. record { writer = kept.owns first own.writer; all = search rules };
      there = kept.there are;
    }
