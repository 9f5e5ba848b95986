-- What stays of a plan when more lines come, what an attempt says of the plan, what trying the next operand says, and
-- over which lines that operand stands as it does.
use Rattle.std.proofs.{
  Common.{◌≡◌, inl, inr, ℕ, suc, ◌+◌, ◌-◌, ◌<◌, ◌≤◌, Bool, true, false, List, [], ◌∷◌, ◌++◌, length, get_or},
  Common.{refl, ◌∙◌, ap, arith, length-append, zero, ◌^◌, drop, sym, subst, None, Result, Ok, Err, OnOk, IfErr},
  Common.{Option, Some, rules, append-nil, min, take, append_assoc},
  lemmas.{
    Grind.common_steps,
    Bool.{cases_lt, eq-eqb, eqb-true, ne_eqb, false≢true},
    List.{get_or-map, drop_at, take_all, take_at, take-append-drop, length-take-le, append-nil},
  },
}
use Rattle.csplit_core.specs.{
  Operand.{Target, Number, Search, Operand, Line, unmarked, is_match, Offset, moved, has_more},
  Plan.{State, Ending, used_up, missed, above, search_line, MatchesNone, line_after, Runs, is_used_up, misses},
  Plan.{is_above, is_below, cuts, below, Plan, ended, CutPoint, CutsAt, IsCut, state_after, past_last},
  Output.Style,
  Planned.plan,
  laws.{
    PlanLaws.{cut_still, goes_on, plan_runs, plan_once, line_some, past_near, fewer_left, fewer},
    SectionLaws.ends_as,
  },
  Progress.{state_of, EndsHere, AimsAt},
  inner.Cutter.{AreSeen, AgreesWithPlan, FallsAt, GoesPast, WillCut, WillSkip, PassesOn, PassesCut, IsWhole, IsLine},
  inner.Cutter.{Joins, past_in, past_by, suppress_in, search_after, Looked, IsFound, IsNoCut, StaysNear, Tries},
  inner.Cutter.{TriesNext, AreClear, IsNextFound, Lacks, equipped, PassesClear, PassesOver, StopsAt},
  inner.PlanLaws.{needed, EndsAs, MovesWithin},
  declared.{
    progress.{Attempt.{Attempt, TheVariants.{UsedUp, Missed, Above, Below, Cuts}}, Progress.Progress},
    line_cutter.Passed.Passed,
  },
  Measure.{IsRepeatedBy, Fits},
  Input.{newline, without_newline, marked, all_lines, is_match_of},
  Cutter.{CutterState, state_in, IsFit, pattern_by, pattern_in, EndsNow, IsSound},
}
use Rattle.csplit_core.proofs.{
  WholeLemmas.after_within,
  LineLemmas.{all_lines-append, all_lines-line, length-all_lines, count-append, count-line, whole-append, whole_drop},
  LineLemmas.{whole_count, whole_by, line_by, rest_all},
}
use Rattle.bre_core.specs.{Pattern.Pattern, Search.contains}
use Rattle.ports_core.specs.declared.fault.Fault.{Fault}
use Rattle.engine_core.specs.InTurn.{fault_in}
use Rattle.seg_core.specs.{
  Line.{line_count, lines_of, delimiters, ends_with, EndsAt, FallsShort, joined, HasNone, IsComplete, AreLines},
}
use Rattle.seg_core.proofs.{
  FirstLines.{EndsAt-enough, lines_of-first_lines},
  LineCounts.{line_count-le-length, line_count_near, ends_with-append},
  LinesOf.{AreLines-lines_of, joined-lines_of},
}
use Rattle.memchr.specs.Find.{Nowhere, NoneBefore, Passes, is_byte}
use Rattle.scan_core.specs.Clear.{IsClear}

-- these lines come after `count` lines; from the line of number `from` on, none of them has the operand's pattern
abbrev pub NoneFrom : Operand → (count : ℕ) → List Line → (from : ℕ) → Type 0
NoneFrom operand count lines from = (k : ℕ) → k < length lines → from ≤ count + suc k → (get_or lines k unmarked).marks operand ≡ false

-- if no line before the last one matches, the last line alone decides

pub looks_past : (operand : Operand) (lines : List Line) (from : ℕ)
    → ((other : ℕ) → from ≤ other → other < length lines → is_match operand lines other ≡ false)
    → (from ≤ length lines → is_match operand lines (length lines) ≡ false) → MatchesNone operand lines from
looks_past operand lines from looked none line from_on within = search rules

-- What stays as it is while more lines come

-- what must be true of more lines, so that the plan still ends at this state
abbrev pub EndsStill : Style → (count : ℕ) → List Line → (total : ℕ) → State → Ending → Type 0
EndsStill style count b total last (missed operand repetition) =
    (operand : Operand) (operands : List Operand) → last.operands ≡ operand ∷ operands → NoneFrom operand count b (search_line style.suppress last)
EndsStill style count b total last (above operand repetition cut) = total + past_last style operand.target < cut.line
EndsStill style count b total last ending = Unit {0}

pub ends_still : {style : Style} {a : List Line} (b : List Line) {first : State} {plan : Plan}
    → Runs style a first plan → EndsStill style (length a) b (length (a ++ b)) plan.last plan.ending
    → Runs style (a ++ b) plan.last (ended plan.last plan.ending)
ends_still b (is_used_up state none) still = is_used_up state none
ends_still b (misses state operand operands is none) still =
    misses state operand operands is ((grind (arith, common_steps, none, (still operand operands is))))
ends_still b (is_above state cut its from far) still = is_above state cut (cut_still b its) from still
ends_still b (is_below state cut its low) still = is_below state cut (cut_still b its) low
ends_still b (cuts state cut its from within plan rest) still = ends_still b rest still

pub stays : (style : Style) (operands : List Operand) (a b : List Line)
    → EndsStill style (length a) b (length (a ++ b)) (plan style operands a).last
    (plan style operands a).ending → plan style operands (a ++ b) ≡ plan style operands a
stays style operands a b so =
    let here = plan_runs style operands a in
    search (rules, plan_once, (goes_on b here (ends_still b here so)), append-nil)

-- What an attempt says of the plan.

-- a number that was capped, and is below the cap, is the number itself
pub capped : (real cap most total : ℕ) → most ≡ min real cap → most ≤ total → total < cap → most ≡ real
capped real cap most total is within low = search rules

module _ (style : Style) (all : List Line) {total : ℕ} {state : State} {found : Bool} {operand : Operand}
    {operands : List Operand} (are : state.operands ≡ operand ∷ operands)
    (seen : AreSeen style.suppress all total state found) where
  -- the code's cut is the plan's, but for a line past the greatest number that there is
  pub falls : (cut at : CutPoint) {last : ℕ} → CutsAt style all state operand operand.target cut
      → at ≡ record cut { line = min cut.line (2 ^ 64 - 1) } → last ≡ total + past_last style operand.target
      → last < 2 ^ 64 - 1 → state.current < 2 ^ 64 - 1 → (attempt : Attempt)
      → FallsAt last state.current at attempt → AgreesWithPlan style all state attempt
  falls cut at {last} cuts_at is last_is few low attempt fact = by attempt fact where
    its : IsCut style all state cut
    its = record { operand = operand; operands = operands; are = are; cuts = cuts_at }

    line_is : at.line ≡ min cut.line (2 ^ 64 - 1)
    line_is = ap (λ (at : CutPoint). at.line) is

    count : length all ≡ total
    count = seen.count

    by : (attempt : Attempt) → FallsAt last state.current at attempt → AgreesWithPlan style all state attempt
    by (Above most) fact = record {
      ending = above operand state.repetition cut;
      runs = is_above state cut its (omega (arith, line_is, fact.1)) (omega (arith, line_is, fact.2, count, last_is));
      aims = (ap (λ (at : CutPoint). at.matched) (fact.0 ∙ is), ap (λ (at : CutPoint). at.line) (fact.0 ∙ is));
    }
    by Below fact =
        let same = capped cut.line (2 ^ 64 - 1) at.line state.current line_is (omega arith) low in
        record { ending = below operand state.repetition; runs = is_below state cut its (omega arith); aims = tt }
    by (Cuts most) fact =
        let same : at.line ≡ cut.line = capped cut.line (2 ^ 64 - 1) at.line last line_is fact.2 few in
        let one : most ≡ cut = fact.0 ∙ is ∙ ap (λ k. record cut { line = k }) (sym line_is ∙ same) in
        rw one (record { its = its; from = omega arith; within = omega (arith, last_is, count) })
    by attempt fact = absurd fact

  -- if the last line has the operand's pattern, the search ends at the last line
  pub falls_search : {pattern : Pattern} {kept : Bool} (offset : Offset) (at : CutPoint) {last : ℕ}
      → operand.target ≡ Search pattern kept offset → search_line style.suppress state ≤ total → found ≡ true
      → at ≡ record { matched = total; line = min (moved offset total) (2 ^ 64 - 1) }
      → last ≡ total + past_last style operand.target → last < 2 ^ 64 - 1 → state.current < 2 ^ 64 - 1
      → (attempt : Attempt) → FallsAt last state.current at attempt → AgreesWithPlan style all state attempt
  falls_search offset at target near is_found =
      falls (record { matched = total; line = moved offset total }) at (search rules)

  -- if the last line lacks the pattern, or the search begins after it, no line matches
  pub misses_search : {pattern : Pattern} {kept : Bool} {offset : Offset} → operand.target ≡ Search pattern kept offset
      → (search_line style.suppress state ≤ total → found ≡ false) → EndsHere style all state Missed
  misses_search target none = record {
    ending = missed operand state.repetition;
    runs = misses state operand operands are (search (rules, looks_past));
    aims = tt;
  }

pub left_is : (operands : List Operand) (at : ℕ) {operand : Operand} → at < length operands
    → operand ≡ get_or operands at operand → drop at operands ≡ operand ∷ drop (at + 1) operands
left_is operands at within is = grind (arith, common_steps)

drop_next : (operands : List Operand) {rest : List Operand} {operand : Operand} (at : ℕ)
    → drop at operands ≡ operand ∷ rest → drop (suc at) operands ≡ rest
drop_next [] zero are = absurd (cc)
drop_next [] at are = absurd (cc)
drop_next (one ∷ operands) zero are = ap (drop 1) are
drop_next (one ∷ operands) (suc at) are = drop_next operands at are

pub passes_on : (suppress : Bool) (operands : List Operand) {rest : List Operand} {operand : Operand}
    (at repetition : ℕ) (cut : CutPoint) {current next : ℕ} → drop at operands ≡ operand ∷ rest
    → has_more operand.times repetition ≡ false → current ≡ line_after suppress cut.line → next ≡ at + 1
    → state_of operands (record { done = next; repetition = 0; current = current; matched = cut.matched })
    ≡ state_after suppress operand rest repetition cut
passes_on suppress operands at repetition cut are none is on = search (rules, drop_next)

-- A cut moves on, and the numbers stay small.

repeated_again : (style : Style) (total : ℕ) (state next : State) (target : Target) (cut : CutPoint)
    → MovesWithin style total state target cut
    → (next.repetition ≡ state.repetition + 1) × (next.matched ≡ cut.matched)
    → IsRepeatedBy total state target → IsRepeatedBy total next target
repeated_again style total state next (Number n) cut at again few =
    omega (arith, fewer_left style total state next (Number n) cut at again, again.0)
repeated_again style total state next (Search pattern kept offset) cut at again few =
    omega (arith, at.moves.0, again.0, again.1)

fits_after : (style : Style) {total : ℕ} {state : State} {operand : Operand} {operands : List Operand} (cut : CutPoint)
    → Fits total state → state.operands ≡ operand ∷ operands → MovesWithin style total state operand.target cut
    → cut.matched ≤ total → Fits total (state_after style.suppress operand operands state.repetition cut)
fits_after style {total} {state} {operand} {operands} cut fits are at few = search
    (rules, line_some, after_within, past_near, repeated_again, at.within, at.some)

-- Going on after a cut

module _ {cutter : CutterState} {cut : CutPoint} {operand : Operand} (progress : Progress) {suppress : Bool}
    (by : suppress ≡ suppress_in cutter) (fit : IsFit cutter) (none : cutter.window.held ≡ [])
    (will : WillCut cutter cut) (here : operand ≡ get_or cutter.operands cutter.progress.done operand)
    (next : (operands rest : List Operand) → drop cutter.progress.done operands ≡ operand ∷ rest
    → state_of operands progress ≡ state_after suppress operand rest cutter.progress.repetition cut) where
  are : (state_in cutter).operands ≡ operand ∷ drop (cutter.progress.done + 1) cutter.operands
  are = search (rules, left_is, will.some)

  same : operand ≡ will.operand
  same = grind (arith, common_steps, are, will.left)

  at : MovesWithin cutter.style cutter.lines (state_in cutter) operand.target cut
  at = rw same (record { moves = will.moves; some = omega (arith, fit.fits.some, will.from); within = will.within })

  fits : Fits cutter.lines (state_of cutter.operands progress)
  fits = rw (next cutter.operands _ are, by) (fits_after cutter.style cut fit.fits are at will.matched)

  less_needed : needed cutter.lines (state_of cutter.operands progress) < needed cutter.lines (state_in cutter)
  less_needed = subst (λ state. needed cutter.lines state < needed cutter.lines (state_in cutter))
      (sym (next cutter.operands _ are)) (rw (← by) at (fewer cutter.style cutter.lines (state_in cutter) cut are at))

  state : PassesOn cutter cut (record cutter { progress = progress })
  state one more is = grind (arith, common_steps)

  -- the same operand is performed again
  pub passes_again : progress.done ≡ cutter.progress.done
      → PassesCut cutter cut (record cutter { progress = progress }) None
  passes_again done = search (rules, fits, less_needed, state)

  -- the next operand has got what it needs
  pub passes_next : (new : CutterState) (result : Result (Unit {0}) Fault)
      → OnOk result (new ≡ equipped (record cutter { progress = progress }))
      → IfErr result (Lacks cutter new) → PassesCut cutter cut new (fault_in result)
  passes_next new (Ok done) is lacks = search (rules, fits, less_needed, state)
  passes_next new (Err fault) is lacks = lacks

-- What trying the next operand with the last line says.

pub found_is : {cutter : CutterState} (line : List ℕ) {text : List ℕ} (number : ℕ) {found : Bool} (target : Target)
    → text ≡ without_newline line → cutter.sought ≡ pattern_in target → IsFound cutter text number found
    → search_line (suppress_in cutter) (state_in cutter) ≤ number → is_match_of line target ≡ found
found_is line number target is sought says near = search rules

pub attempt_ends : {style : Style} {lines : List Line} {state : State} (attempt : Attempt) → IsNoCut attempt
    → AgreesWithPlan style lines state attempt → EndsHere style lines state attempt
attempt_ends attempt no_cut ends = search rules

-- a search after a cut begins at the cut or after it
pub search_past : (suppress : Bool) (cut : CutPoint) → cut.line ≤ search_after suppress cut
search_past suppress cut = search rules

-- the contract of `try_last`

module _ {cutter : CutterState} (line : List ℕ) {found : Bool} (attempt : Attempt) (fit : IsFit cutter)
    (says : IsFound cutter (without_newline line) cutter.lines found)
    (turns : (lines : List Line) → AreSeen (suppress_in cutter) lines cutter.lines (state_in cutter) found
    → AgreesWithPlan cutter.style lines (state_in cutter) attempt) (x : List ℕ)
    (looked : Looked cutter x line) where
  agrees : AgreesWithPlan cutter.style (all_lines x) (state_in cutter) attempt
  agrees = turns (all_lines x) (grind (arith, common_steps))

  pub tries_cut : (cut : CutPoint) → attempt ≡ Cuts cut
      → GoesPast cutter.style (all_lines x) (state_in cutter) cut × StaysNear cutter cut
  tries_cut cut is = search (rules, agrees)

  pub tries_none : IsNoCut attempt → EndsNow (record cutter { aim = attempt }) x
  tries_none no_cut = attempt_ends attempt no_cut agrees

-- One more line comes.

-- With the lines of this text there are `lines` lines, and the next operand stands as it did.
abbrev pub StaysOver : CutterState → (text : List ℕ) (lines : ℕ) → Attempt → Type 0
StaysOver cutter text lines Missed = (operand : Operand) → cutter.sought ≡ pattern_in operand.target → NoneFrom operand cutter.lines
    (all_lines text) (search_line (suppress_in cutter) (state_in cutter))
StaysOver cutter text lines (Above cut) = lines + past_in cutter < cut.line
StaysOver cutter text lines attempt = Unit {0}

still_over : {cutter : CutterState} (lines : ℕ) (text : List ℕ) → IsFit cutter → (x : List ℕ)
    → lines ≡ cutter.lines + line_count newline text → cutter.lines ≡ line_count newline x → (aim : Attempt)
    (ending : Ending) → EndsAs cutter.style (all_lines x) (state_in cutter) ending → AimsAt aim ending
    → StaysOver cutter text lines aim
    → EndsStill cutter.style (length (all_lines x)) (all_lines text) (length (all_lines x ++ all_lines text))
    (state_in cutter) ending
still_over lines text fit x count counted UsedUp used_up ends aims stays = tt
still_over {cutter} lines text fit x count counted Missed (missed operand repetition) ends aims stays = λ one more are.
    rw (length-all_lines x, ← counted) (stays one (fit.sought ∙ ap pattern_by are))
still_over {cutter} lines text fit x count counted (Above at) (above operand repetition cut) (operands, are, cuts_at, from, far, often) aims stays =
    let past : past_in cutter ≡ past_last cutter.style operand.target = ap (past_by cutter.style) are in
    omega (arith, aims.1, length-append (all_lines x) (all_lines text), length-all_lines x, length-all_lines text)
still_over lines text fit x count counted Below (below operand repetition) ends aims stays = tt
still_over lines text fit x count counted aim ending ends aims stays = absurd aims

-- what passing over a text leaves of the plan
pub ends_over : {cutter : CutterState} {lines : ℕ} (text : List ℕ) → IsFit cutter
    → lines ≡ cutter.lines + line_count newline text → StaysOver cutter text lines cutter.aim → (x : List ℕ)
    → Joins x text → cutter.lines ≡ line_count newline x → EndsNow cutter x
    → (lines ≡ line_count newline (x ++ text)) × EndsNow (record cutter { lines = lines }) (x ++ text)
ends_over {cutter} {lines} text fit count stays x before counted ends = (
  omega (arith, count-append text before),
  record {
    ending = ends.ending;
    runs = rw (all_lines-append text before) (ends_still (all_lines text) ends.runs
        (still_over lines text fit x count counted cutter.aim ends.ending (ends_as ends.runs) ends.aims stays));
    aims = ends.aims;
  },
)

pub next_stays : {cutter : CutterState} {x : List ℕ} (line : List ℕ) {attempt : Attempt} → IsFit cutter
    → cutter.lines ≡ line_count newline x → EndsNow cutter x → IsWhole x → IsLine line → cutter.aim ≡ attempt
    → StaysOver cutter line (cutter.lines + 1) attempt
    → EndsNow (record cutter { lines = cutter.lines + 1 }) (x ++ line)
next_stays {cutter} {x} line fit counted ends whole one aim stays =
    (ends_over line fit (omega (arith, ap length one))
    (subst (StaysOver cutter line (cutter.lines + 1)) (sym aim) stays) x (inl whole) counted ends).1

-- the cutter's count of lines is right
pub lines_are : {lines : ℕ} (x : List ℕ) → lines ≡ line_count newline x → length (all_lines x) ≡ lines
lines_are x counted = length-all_lines x ∙ sym counted

-- a cut that was above the last line can be made once its line came in
pub above_cuts : {style : Style} (lines : List Line) (line : Line) {state : State} {total : ℕ} {at : CutPoint}
    (ending : Ending) → length lines ≡ total → EndsAs style lines state ending
    → AimsAt (Above at) ending → at.line ≤ total + 1 + past_by style state.operands → total + 1 < 2 ^ 64 - 2
    → GoesPast style (lines ++ line ∷ []) state at × (total + 1 ≤ at.line)
above_cuts {style} lines line {total = total} {at} (above operand repetition cut) count (operands, are, cuts_at, from, far, often) aims near few =
    let past : past_by style _ ≡ past_last style operand.target = ap (past_by style) are in
    let same : at.line ≡ cut.line = search (rules, aims, past, past_near style operand.target) in
    let its : IsCut style (lines ++ line ∷ []) _ cut = cut_still (line ∷ []) (record { operand = operand; operands = operands; are = are; cuts = cuts_at }) in (
      rw (aims.0, same) (record { its = its; from = from; within = omega (arith, length-append lines (line ∷ [])) }),
      omega arith,
    )
above_cuts lines line ending count ends aims near few = absurd aims

-- a pattern matched no line so far

pub next_looked : {cutter : CutterState} {x : List ℕ} (line : List ℕ) → cutter.lines ≡ line_count newline x
    → (now : EndsNow cutter x) → IsWhole x → IsLine line
    → cutter.aim ≡ Missed → Looked (record cutter { lines = cutter.lines + 1 }) (x ++ line) line
next_looked {x = x} line counted now whole one aim =
    let ends = ends_as now.runs in
    let count = lines_are x counted in
    let aims = rw aim at now.aims in record {
      counted = search (rules, count-line);
      last = (all_lines x, all_lines-line line whole one, λ ends. whole-append line whole (inr ends));
      others = grind (arith, common_steps, are, all_lines-line);
    }

pub next_sought : {cutter : CutterState} (x : List ℕ) (now : EndsNow cutter x) → IsFit cutter → cutter.aim ≡ Missed
    → cutter.sought ≡ None → ⊥
next_sought x now fit aim none = search rules

pub next_tries : {cutter : CutterState} (next : CutterState) (line : List ℕ) (result : Option CutPoint) → IsFit cutter
    → IsLine line → cutter.aim ≡ Missed → next.lines ≡ cutter.lines + 1
    → Tries (record cutter { lines = cutter.lines + 1 }) line next result → TriesNext cutter line next result
next_tries next line None fit one aim count tries = λ x whole counted now.
    tries (x ++ line) (next_looked line counted now whole one aim)
next_tries next line (Some cut) fit one aim count tries = λ x whole counted now.
    let both = tries (x ++ line) (next_looked line counted now whole one aim) in
    (both.0, omega (arith, both.1 (inr (next_sought x now fit aim))))

-- What stays true of a state when more lines come

pub passes : {cutter : CutterState} {text : List ℕ} {lines n : ℕ} → IsSound cutter → n ≤ length text
    → IsWhole (take n text) → lines ≡ cutter.lines + line_count newline (take n text)
    → StaysOver cutter (take n text) lines cutter.aim → (WillSkip cutter → ⊥)
    → PassesOver cutter text (record cutter { lines = lines }) n
passes {text = text} {n = n} sound within whole count stays near = record {
  same = refl;
  within = within;
  whole = whole;
  few = omega (arith, line_count-le-length newline (take n text), length-take-le n text within);
  none = λ skips. absurd (near skips);
  sound = search rules;
  ends = ends_over (take n text) sound.fit count stays;
}

-- All lines of a text are passed over

pub passes_all : {cutter : CutterState} {text : List ℕ} {n : ℕ} → IsSound cutter → IsWhole text
    → n ≡ delimiters newline text → StaysOver cutter text (cutter.lines + n) cutter.aim → (WillSkip cutter → ⊥)
    → PassesOver cutter text (record cutter { lines = cutter.lines + n }) (length text)
passes_all {text = text} sound whole count stays near =
    let all : text ≡ take (length text) text = sym (take_all (length text) text (omega arith)) in
    passes sound (omega arith) (subst IsWhole all whole) (omega (arith, whole_count whole, ap (line_count newline) all)) (rw all at stays) near

-- Lines before the line of a cut

-- the line with which the operand can cut did not come in yet
pub not_yet : {cutter : CutterState} {cut : CutPoint} → IsSound cutter → cutter.aim ≡ Above cut
    → cutter.lines + past_in cutter < cut.line
not_yet {cutter} sound aim =
    let moves = rw aim at sound.aim in
    rw moves.left moves.above

pub passes_below : {cutter : CutterState} {text : List ℕ} {cut : CutPoint} (last past end : ℕ) → IsSound cutter
    → cutter.aim ≡ Above cut → (WillSkip cutter → ⊥) → past ≡ past_in cutter
    → last ≡ cut.line - past - 1 → EndsAt newline (last - cutter.lines) text end
    → PassesOver cutter text (record cutter { lines = last }) end
passes_below {cutter} {text} last past end sound aim near past_is last_is ends =
    let less = not_yet sound aim in
    let count : line_count newline (take end text) ≡ last - cutter.lines =
    (grind (arith, common_steps, EndsAt-enough, line_count_near, lines_of-first_lines, length-take-le, ends)) in
    passes sound ends.within (whole_by (take end text) _ refl (omega arith)) (omega arith)
    (rw aim (omega arith)) near

pub passes_short : {cutter : CutterState} {text : List ℕ} {cut : CutPoint} (last past : ℕ) {count : ℕ} → IsSound cutter
    → IsWhole text → cutter.aim ≡ Above cut → (WillSkip cutter → ⊥)
    → past ≡ past_in cutter → last ≡ cut.line - past - 1 → FallsShort newline (last - cutter.lines) text count
    → PassesOver cutter text (record cutter { lines = cutter.lines + count }) (length text)
passes_short last past sound whole aim near past_is last_is short =
    let less = not_yet sound aim in search (rules, passes_all, StaysOver)

-- Lines without the pattern that is searched for

-- The text before `left` was counted. None of its lines has the pattern that is searched for, from the beginning of the
-- search on.
pub record Unmatched (cutter : CutterState) (text left : List ℕ) (next : CutterState) : Type 0 where
  pub front : List ℕ
  pub all : text ≡ front ++ left
  pub whole : IsWhole front
  pub same : next ≡ record cutter { lines = next.lines }
  pub count : next.lines ≡ cutter.lines + line_count newline front
  pub none : StaysOver cutter front next.lines Missed

-- the line up to the first newline

pub first_ends : (x : List ℕ) (end : ℕ) → end < length x → Passes (is_byte newline) x end
    → ends_with newline (take (suc end) x) ≡ true
first_ends [] end within here = absurd (omega arith)
first_ends (byte ∷ x) zero within here = here
first_ends (byte ∷ x) (suc end) within here = search (rules, first_ends x end)

-- the line up to the first newline is complete
first_parts : (x : List ℕ) (end : ℕ) → end < length x → Passes (is_byte newline) x end
    → Nowhere (Passes (is_byte newline) x) 0 end
    → (take (suc end) x ≡ take end x ++ newline ∷ []) × HasNone newline (take end x)
first_parts [] end within here none = absurd (omega arith)
first_parts (byte ∷ x) zero within here none = search (rules, eqb-true)
first_parts (byte ∷ x) (suc end) within here none = search (
  rules,
  eq-eqb,
  none 0 (omega arith)
      (omega arith),
  first_parts x end (omega arith) here (λ k low high. none (suc k) (omega arith) (omega arith)),
)

pub without_last : (text : List ℕ) → HasNone newline text → without_newline (text ++ newline ∷ []) ≡ text
without_last [] none = refl
without_last (byte ∷ text) none = search (rules, ne_eqb byte newline none.0, without_last text none.1)

-- one more line doesn't match

none_one : (operand : Operand) (count : ℕ) (line : Line) (from : ℕ) → (from ≤ count + 1 → line.marks operand ≡ false)
    → NoneFrom operand count (line ∷ []) from
none_one operand count line from here k less near = search rules

-- the first line of a text is complete, and its newline stands at `end`
pub record EndsFirst (text : List ℕ) (end : ℕ) : Type 0 where
  pub within : end < length text
  pub line : IsLine (take (suc end) text)
  pub ends : ends_with newline (take (suc end) text) ≡ true
  pub without : take end text ≡ without_newline (take (suc end) text)

pub first_at : {text : List ℕ} (end : ℕ)
    → NoneBefore (Passes (is_byte newline) text) 0 (length text) end × Passes (is_byte newline) text end
    → EndsFirst text end
first_at {text} end (place, here) = search (rules, first_parts, line_by, first_ends, without_last)

-- more lines are passed over
unmatched_on : {cutter : CutterState} {text left : List ℕ} {next after : CutterState} (more rest : List ℕ)
    → Unmatched cutter text left next → left ≡ more ++ rest → IsWhole more
    → after ≡ record next { lines = after.lines } → after.lines ≡ next.lines + line_count newline more
    → ((operand : Operand) → cutter.sought ≡ pattern_in operand.target
    → NoneFrom operand next.lines (all_lines more) (search_line (suppress_in cutter) (state_in cutter)))
    → Unmatched cutter text rest after
unmatched_on {cutter} {after = after} more rest so parts whole same count others = record {
  front = so.front ++ more;
  all = search (rules, append_assoc);
  whole = whole-append more so.whole whole;
  same = search rules;
  count = omega (arith, count-append more (inl so.whole));
  none = grind (arith, common_steps, all_lines-append, length-all_lines);
}

-- the cutter looked at one more line, which doesn't match
pub one_more : {cutter : CutterState} {text left : List ℕ} {next now : CutterState} (end : ℕ) {found : Bool}
    → Unmatched cutter text left next → now ≡ next → EndsFirst left end
    → IsFound next (take end left) (next.lines + 1) found → found ≡ false
    → Unmatched cutter text (take (length left - (end + 1)) (drop (end + 1) left))
    (record now { lines = now.lines + 1 })
one_more {cutter} {left = left} {next} {now} end so is first finds not =
    let line = take (suc end) left in
    let found_at : IsFound (record cutter { lines = next.lines }) (take end left) (next.lines + 1) false = search rules in
    unmatched_on line _ so (search (rules, take-append-drop, rest_all))
    (inr first.ends) (ap (λ (those : CutterState). record those { lines = now.lines + 1 }) is)
    (omega (arith, ap (λ (those : CutterState). those.lines) is, ap length first.line))
    (λ operand same. search (rules, none_one, found_is))

-- no more lines are counted than bytes come

pub few_counted : {cutter : CutterState} {text left : List ℕ} {next : CutterState} → Unmatched cutter text left next
    → next.lines + length left ≤ cutter.lines + length text
few_counted so = grind (arith, common_steps, line_count-le-length)

-- all lines that the cutter looked at are passed over
pub all_passed_at : {cutter : CutterState} {text left : List ℕ} {next now : CutterState} → IsSound cutter
    → (WillSkip cutter → ⊥) → cutter.aim ≡ Missed → Unmatched cutter text left next → now ≡ next
    → PassesOver cutter text now (length text - length left)
all_passed_at {cutter} {text} {left} sound near aim so is =
    let count : length so.front ≡ length text - length left = omega (arith, ap length so.all ∙ length-append so.front left) in
    let front_is : so.front ≡ take (length text - length left) text = search (rules, take_at) in
    rw (← (is ∙ so.same)) at (passes sound (omega arith) (rw front_is at so.whole)
    (so.count ∙ ap (λ those. cutter.lines + line_count newline those) front_is)
    (rw (aim, ← front_is) so.none) near)

-- Lines that are known to have no match

marks_clear : (operand : Operand) (x : List ℕ) (count start : ℕ)
    → ((pattern : Pattern) → pattern_in operand.target ≡ Some pattern → AreClear pattern x)
    → NoneFrom operand count (all_lines x) start
marks_clear operand x count start clear k less near =
    let few : k < line_count newline x = search (rules, length-all_lines) in
    search (rules, get_or-map marked (lines_of newline x) k [] unmarked few)

pub more_clear : {cutter : CutterState} {text left rest : List ℕ} {next after : CutterState} {n : ℕ}
    → Unmatched cutter text left next → PassesClear next left after n → rest ≡ drop n left
    → Unmatched cutter text rest after
more_clear {left = left} {rest} {n = n} so clear rest_is =
    let t = take n left in
    unmatched_on t rest so (search (rules, take-append-drop)) clear.whole clear.same clear.count
    (λ operand same. marks_clear operand t _ _ (λ pattern is. search rules))

-- what is left has complete lines
pub left_whole : {cutter : CutterState} {text left : List ℕ} {next : CutterState} → IsWhole text
    → Unmatched cutter text left next → IsWhole left
left_whole {left} whole so = rw (so.all, drop_at so.front left (length so.front) refl) at (whole_drop (length so.front) whole)

pub stops_unfound : {cutter : CutterState} {text : List ℕ} {next : CutterState} {n : ℕ} (passed : Passed)
    → PassesOver cutter text next n → passed.size ≡ n → passed.found ≡ None → StopsAt cutter text next passed
stops_unfound passed over size_is found_is = search rules

-- The line in which the pattern was found is the next line.

pub next_found : {cutter : CutterState} {text left : List ℕ} {next now : CutterState} (end : ℕ) {found : Bool}
    → cutter.aim ≡ Missed → Unmatched cutter text left next → now ≡ next → EndsFirst left end
    → IsFound next (take end left) (next.lines + 1) found → found ≡ true
    → IsNextFound now (drop (length text - length left) text) (end + 1)
next_found {text = text} {left} end aim so now_is first finds sure = search (rules, drop_at, length-append)

-- Lines of a text that has no match up to a place, and lines without their newlines.

pub without_none : (text : List ℕ) → HasNone newline text → without_newline text ≡ text
without_none [] none = refl
without_none (byte ∷ text) none = search (rules, ne_eqb byte newline none.0, without_none text none.1)

ends_none : (text : List ℕ) → HasNone newline text → ends_with newline text ≡ false
ends_none [] none = refl
ends_none (byte ∷ []) none = ne_eqb byte newline none.0
ends_none (byte ∷ next ∷ text) none = ends_none (next ∷ text) none.1

-- A complete line that ends before or at the place contains no match.

line_clear : (pattern : Pattern) {text : List ℕ} (place : ℕ) (front line more rest : List ℕ)
    → IsClear pattern text place → text ≡ front ++ (line ++ more) ++ rest → length front + length (line ++ more) ≤ place
    → IsComplete newline line
    → contains pattern (without_newline line) ≡ false
line_clear pattern {text} place front line more rest clear all within (bytes, is, none) =
    let after = newline ∷ (more ++ rest) in
    let parts : text ≡ front ++ bytes ++ after = search (rules, append_assoc) in
    ap (contains pattern) (ap without_newline is ∙ without_last bytes none) ∙ clear front bytes after parts
    (omega (arith, ap length is ∙ length-append bytes (newline ∷ []), length-append line more))

each_clear : (pattern : Pattern) {text : List ℕ} (place : ℕ) (front : List ℕ) (lines : List (List ℕ)) (rest : List ℕ)
    → IsClear pattern text place → text ≡ front ++ joined lines ++ rest → length front + length (joined lines) ≤ place
    → AreLines newline lines
    → (0 < length lines → ends_with newline (joined lines) ≡ true) → (k : ℕ) → k < length lines
    → contains pattern (without_newline (get_or lines k [])) ≡ false
each_clear pattern place front [] rest clear all within are ends k less = absurd (omega arith)
each_clear pattern place front (line ∷ []) rest clear all within (inl complete) ends zero less = search (rules, line_clear)
each_clear pattern place front (line ∷ []) rest clear all within (inr unended) ends zero less = search (rules, false≢true, ends_none, append-nil)
each_clear pattern place front (line ∷ []) rest clear all within are ends (suc k) less = absurd (omega arith)
each_clear pattern place front (line ∷ next ∷ lines) rest clear all within are ends zero less = search (rules, line_clear)
each_clear pattern place front (line ∷ next ∷ lines) rest clear all within are ends (suc k) less =
    each_clear pattern place (front ++ line) (next ∷ lines) rest clear
    (search (rules, append_assoc))
    (omega (arith, length-append front line, length-append line (joined (next ∷ lines)))) are.1
    (λ some. grind (arith, common_steps, ends_with-append)) k (omega arith)

pub clear_front : (pattern : Pattern) (text : List ℕ) (place n : ℕ) → IsClear pattern text place → n ≤ place
    → n ≤ length text → IsWhole (take n text) → AreClear pattern (take n text)
clear_front pattern text place n clear low within whole =
    let x = take n text in
    let joined_is : joined (lines_of newline x) ≡ x = joined-lines_of newline x in
    each_clear pattern place [] (lines_of newline x) (drop n text) clear (search (rules, take-append-drop))
    (omega (arith, ap length joined_is ∙ length-take-le n text within)) (AreLines-lines_of newline x) (search (rules, joined-lines_of))

-- A line has its newline at its end, if it has one.

pub one_line : (line : List ℕ) → IsLine line → AreLines newline (line ∷ [])
one_line line one = subst (AreLines newline) one (AreLines-lines_of newline line)

pub none_at : (text : List ℕ) (n d : ℕ) → n < length text → HasNone newline text → get_or text n d ≡ newline → ⊥
none_at [] n d less none is = absurd (omega arith)
none_at (byte ∷ text) zero d less none is = none.0 is
none_at (byte ∷ text) (suc n) d less none is = none_at text n d (omega arith) none.1 is

-- if a text ends after a newline, it has complete lines

pub ends_there : (text : List ℕ) (n : ℕ) → n ≤ length text → (0 < n → Passes (is_byte newline) text (n - 1))
    → IsWhole (take n text)
ends_there text n within here = search (rules, cases_lt, first_ends)
