-- Laws that traits cite: the plan that is computed is the one plan there is, and it goes on as the lines do.
use Rattle.std.proofs.{
  lemmas.{Grind.common_steps, Bool.{cases_lt, Decides.nat_tests}, List.{drop_all, length-take-le, take-append-drop}},
  Common.{◌≡◌, inl, inr, ℕ, zero, suc, ◌+◌, ◌-◌, ◌<◌, ◌≤◌, Bool, true, false, cond, List, [], ◌∷◌, ◌++◌},
  Common.{append_assoc, length, Option, Some, None, refl, ◌∙◌, ap, arith, length-append, ◌*◌, nat_lt, subst, rules},
  Common.option_map,
  Math.Seq.get_or-append_seam,
}
use Rattle.csplit_core.specs.{
  Operand.{Operand, Line, is_match, moved, Target, Number, Search, has_more},
  Plan.{State, search_line, start, Step, Ending, used_up, above, below, Plan, ended, after_steps, CutPoint, CutsAt},
  Plan.{IsCut, line_after, state_after, step_of, past_last, Runs, is_used_up, misses, is_above, is_below, cuts},
  Planned.{first_among, first_match, ends, goes, attempt, PlannedAttempt, cut_by, attempt_at, attempt_of},
  Planned.{plan_within, plan},
  inner.PlanLaws.{MatchesAs, CutsAs, after, left_of, needed_by, needed, MovesWithin},
}
use Rattle.operand_core.specs.Style.{Style}

matched_on : (operand : Operand) (lines : List Line) {from : ℕ} (has : Bool) → is_match operand lines from ≡ has
    → from ≤ length lines
    → (matched : Option ℕ) → MatchesAs operand lines (suc from) matched
    → MatchesAs operand lines from (cond has (Some from) matched)
matched_on operand lines has is within matched rest = search rules

among : (operand : Operand) (front rest : List Line) {from : ℕ} → from ≡ length front + 1
    → MatchesAs operand (front ++ rest) from (first_among operand from rest)
among operand front [] is = search rules
among operand front (line ∷ rest) {from} is = matched_on operand (front ++ line ∷ rest) (line.marks operand)
    (grind (arith, common_steps, get_or-append_seam))
    (omega (arith, length-append front (line ∷ rest))) (first_among operand (suc from) rest)
    (rw (← append_assoc front (line ∷ []) rest) (among operand (front ++ line ∷ []) rest
    (omega (arith, length-append front (line ∷ [])))))

pub first_match_as : (operand : Operand) (lines : List Line) (from : ℕ) → 1 ≤ from
    → MatchesAs operand lines from (first_match operand lines from)
first_match_as operand lines from some = elim (cases_lt (length lines) (from - 1)) [
  | inl beyond ↦ rw (drop_all (from - 1) lines (omega arith))
      (λ line from_on within. absurd (omega arith))
  | inr on ↦ subst (λ those. MatchesAs operand those from (first_match operand lines from))
      (take-append-drop (from - 1) lines)
      (search (rules, among, length-take-le))
]

pub search_some : (suppress : Bool) (state : State) → 1 ≤ search_line suppress state
search_some suppress state = search rules

first_is : (style : Style) (operand : Operand) (lines : List Line) (state : State) (matched : Option ℕ)
    → MatchesAs operand lines (search_line style.suppress state) matched
    → first_match operand lines (search_line style.suppress state) ≡ matched
first_is style operand lines state matched is = search (rules, first_match_as, search_some)

pub less_test : (a b : ℕ) → a < b → nat_lt a b ≡ true
less_test a b less = grind (arith, nat_tests, less)

pub not_less_test : (a b : ℕ) → b ≤ a → nat_lt a b ≡ false
not_less_test a b less = grind (arith, nat_tests, less)

from_less : (a b : ℕ) → nat_lt a b ≡ true → a < b
from_less a b is = grind (arith, nat_tests, is)

pub from_not_less : (a b : ℕ) → nat_lt a b ≡ false → b ≤ a
from_not_less a b is = grind (arith, nat_tests, is)

-- The computation does what a plan says

pub cut_as : (style : Style) (lines : List Line) (state : State) (operand : Operand) (target : Target)
    → CutsAs style lines state operand target (cut_by style lines state operand target)
cut_as style lines state operand (Number n) = (refl, refl)
cut_as style lines state operand (Search pattern kept offset) =
    let from = search_line style.suppress state in
    (elim (first_match operand lines from) as (λ found. MatchesAs operand lines from found
    → CutsAs style lines state operand (Search pattern kept offset)
    (option_map (λ line. record { matched = line; line = moved offset line }) found)) [
      | None ↦ λ none. none
      | Some line ↦ λ first. (first, refl)
    ]) (first_match_as operand lines from (search_some style.suppress state))

cut_once : (style : Style) (lines : List Line) (state : State) (operand : Operand) (target : Target)
    (cut : Option CutPoint) → CutsAs style lines state operand target cut
    → cut_by style lines state operand target ≡ cut
cut_once style lines state operand (Number n) None at = absurd at
cut_once style lines state operand (Number n) (Some cut) at = rw (← at.0, ← at.1) refl
cut_once style lines state operand (Search pattern kept offset) None none =
    rw (first_is style operand lines state None none) refl
cut_once style lines state operand (Search pattern kept offset) (Some cut) at =
    rw (first_is style operand lines state (Some cut.matched) at.0, ← at.1) refl

attempt_as : (style : Style) (lines : List Line) (state : State) {operand : Operand} {operands : List Operand}
    (cut : Option CutPoint) → state.operands ≡ operand ∷ operands
    → CutsAs style lines state operand operand.target cut
    → attempt style lines state ≡ attempt_at style (length lines) state operand operands cut
attempt_as style lines state {operand} {operands} cut is at = ap (attempt_of style lines state) is
    ∙ ap (attempt_at style (length lines) state operand operands)
    (cut_once style lines state operand operand.target cut at)

fewer_operands : (total : ℕ) (state : State) (operands : List Operand)
    → needed_by total state operands < length operands * (total + 1) + 1
fewer_operands total state [] = omega arith
fewer_operands total state (operand ∷ operands) = search rules

-- a cut stands at most one past the last line
pub past_near : (style : Style) (target : Target) → past_last style target ≤ 1
past_near style (Number n) = search rules
past_near style (Search pattern kept offset) = search rules

pub fewer_left : (style : Style) (total : ℕ) (state next : State) (target : Target) (cut : CutPoint)
    → MovesWithin style total state target cut
    → (next.repetition ≡ state.repetition + 1) × (next.matched ≡ cut.matched)
    → left_of total next target < left_of total state target
fewer_left style total state next (Number zero) cut at again = absurd (omega (arith, at.moves, at.some))
fewer_left style total state next (Number (suc n)) cut at again = search (rules, at.moves, at.some, at.within, again.0)
fewer_left style total state next (Search pattern kept offset) cut at again =
    omega (arith, at.moves.0, at.moves.1, again.1)

fewer_by : (style : Style) (total : ℕ) (state : State) (operand : Operand) (operands : List Operand) (cut : CutPoint)
    → MovesWithin style total state operand.target cut → (more : Bool) → needed total (record {
      operands = cond more (operand ∷ operands) operands;
      repetition = cond more (state.repetition + 1) 0;
      current = line_after style.suppress cut.line;
      matched = cut.matched;
    }) < needed_by total state (operand ∷ operands)
fewer_by style total state operand operands cut at true =
    let less = fewer_left style total state (record {
      operands = operand ∷ operands;
      repetition = state.repetition + 1;
      current = line_after style.suppress cut.line;
      matched = cut.matched;
    }) operand.target cut at (refl, refl) in omega arith
fewer_by style total state operand operands cut at false = search (rules, fewer_operands)

pub fewer : (style : Style) (total : ℕ) (state : State) {operand : Operand} {operands : List Operand}
    (cut : CutPoint) → state.operands ≡ operand ∷ operands → MovesWithin style total state operand.target cut
    → needed total (state_after style.suppress operand operands state.repetition cut) < needed total state
fewer style total state {operand} {operands} cut is at =
    rw is (fewer_by style total state operand operands cut at (has_more operand.times state.repetition))

pub line_some : (suppress : Bool) (cut : ℕ) → cut ≤ line_after suppress cut
line_some suppress cut = search rules

-- a cut that stands within the lines moves on
cut_moves : (style : Style) (lines : List Line) (state : State) (operand : Operand) (target : Target) {cut : CutPoint}
    → CutsAt style lines state operand target cut → (1 ≤ cut.line) × (cut.line ≤ length lines + past_last style target)
    → MovesWithin style (length lines) state target cut
cut_moves style lines state operand (Number n) at within = search rules
cut_moves style lines state operand (Search pattern kept offset) at within = search rules

fewer_cut : {style : Style} {lines : List Line} {state : State} {cut : CutPoint} (its : IsCut style lines state cut)
    → 1 ≤ cut.line → cut.line ≤ length lines + past_last style its.operand.target
    → needed (length lines) (state_after style.suppress its.operand its.operands state.repetition cut)
    < needed (length lines) state
fewer_cut {style} {lines} {state} {cut} its some within = fewer style (length lines) state cut its.are
    (cut_moves style lines state its.operand its.operand.target its.cuts (some, within))

-- the run ends at once
ends_now : (style : Style) (lines : List Line) (state : State) {ending : Ending} (bound : ℕ)
    → attempt style lines state ≡ ends ending → 1 ≤ bound → plan_within bound style lines state ≡ ended state ending
ends_now style lines state zero is some = absurd (omega arith)
ends_now style lines state (suc bound) is some = rw (plan_within, is) refl

module _ (style : Style) (lines : List Line) (state : State) {operand : Operand} {operands : List Operand}
    (bound : ℕ) (is : state.operands ≡ operand ∷ operands) (enough : needed (length lines) state ≤ bound)
    (cut : Option CutPoint) (at : CutsAs style lines state operand operand.target cut) where
  ends_within : {ending : Ending} → attempt_at style (length lines) state operand operands cut ≡ ends ending
      → plan_within bound style lines state ≡ ended state ending
  ends_within e = ends_now style lines state bound (attempt_as style lines state cut is at ∙ e)
      (let all : needed_by (length lines) state (operand ∷ operands) ≤ bound = rw is at enough in omega arith)

-- the run makes a step
module _ (style : Style) (lines : List Line) (state next : State) {step : Step}
    (is : attempt style lines state ≡ goes step next)
    (less : needed (length lines) next < needed (length lines) state) where
  goes_within : (bound : ℕ) → needed (length lines) state ≤ bound → {plan : Plan}
      → ((bound : ℕ) → needed (length lines) next ≤ bound → plan_within bound style lines next ≡ plan)
      → plan_within bound style lines state ≡ after_steps (step ∷ []) plan
  goes_within zero enough rest = absurd (omega arith)
  goes_within (suc bound) enough rest = rw (plan_within, is) (ap (after_steps (step ∷ [])) (rest bound (omega arith)))

-- any plan is the plan that is computed
pub computed : {style : Style} {lines : List Line} {first : State} {plan : Plan} → Runs style lines first plan
    → (bound : ℕ) → needed (length lines) first ≤ bound → 1 ≤ first.current
    → plan_within bound style lines first ≡ plan
computed (is_used_up state none) zero enough some = refl
computed (is_used_up state none) (suc bound) enough some = search rules
computed {style} {lines} (misses state operand operands is none) bound enough some =
    ends_within style lines state bound is enough None none refl
computed {style} {lines} (is_above state cut its from far) bound enough some =
    ends_within style lines state bound its.are enough (Some cut) its.cuts
    (grind (arith, common_steps, less_test, not_less_test))
computed {style} {lines} (is_below state cut its low) bound enough some =
    ends_within style lines state bound its.are enough (Some cut) its.cuts
    (grind (arith, common_steps, less_test))
computed {style} {lines} (cuts state cut its from within plan rest) bound enough some =
    goes_within style lines state _
    (attempt_as style lines state (Some cut) its.are its.cuts ∙ (grind (arith, common_steps, not_less_test)))
    (fewer_cut its (omega arith) within) bound enough
    (λ bound enough. computed rest bound enough (omega (arith, line_some style.suppress cut.line)))

-- An attempt agrees with the plan: it ends here, or any plan goes on after one more step, and there is less to do.
abbrev Attempted : Style → List Line → State → PlannedAttempt → Type 0
Attempted style lines state (ends ending) = Runs style lines state (ended state ending)
Attempted style lines state (goes step next) = (needed (length lines) next < needed (length lines) state)
    × (1 ≤ next.current)
    × ((plan : Plan) → Runs style lines next plan → Runs style lines state (after_steps (step ∷ []) plan))

module _ (style : Style) (lines : List Line) (state : State) (some : 1 ≤ state.current) where
  attempted_at : {cut : CutPoint} (its : IsCut style lines state cut) → (low far : Bool)
      → nat_lt cut.line state.current ≡ low
      → nat_lt (length lines + past_last style its.operand.target) cut.line ≡ far
      → Attempted style lines state (cond low (ends (below its.operand state.repetition))
      (cond far (ends (above its.operand state.repetition cut))
      (goes (step_of state its.operand cut)
      (state_after style.suppress its.operand its.operands state.repetition cut))))
  attempted_at {cut} its true far low_is far_is = is_below state cut its (from_less _ _ low_is)
  attempted_at {cut} its false true low_is far_is =
      is_above state cut its (from_not_less _ _ low_is) (from_less _ _ far_is)
  attempted_at {cut} its false false low_is far_is =
      let from = from_not_less _ _ low_is in
      let within = from_not_less _ _ far_is in (
        fewer_cut its (omega arith) within,
        omega (arith, line_some style.suppress cut.line),
        λ plan rest. cuts state cut its from within plan rest,
      )

  attempted_as : {operand : Operand} {operands : List Operand} → state.operands ≡ operand ∷ operands
      → (cut : Option CutPoint) → CutsAs style lines state operand operand.target cut
      → Attempted style lines state (attempt_at style (length lines) state operand operands cut)
  attempted_as is None none = misses state _ _ is none
  attempted_as {operand} {operands} is (Some cut) at =
      attempted_at (record { operand = operand; operands = operands; are = is; cuts = at }) _ _ refl refl

  attempted_of : (operands : List Operand) → state.operands ≡ operands
      → Attempted style lines state (attempt_of style lines state operands)
  attempted_of [] is = is_used_up state is
  attempted_of (operand ∷ operands) is = attempted_as is _ (cut_as style lines state operand operand.target)

none_by : (style : Style) (lines : List Line) (state : State) (operands : List Operand) → state.operands ≡ operands
    → needed_by (length lines) state operands ≤ 0 → Runs style lines state (ended state used_up)
none_by style lines state [] is enough = is_used_up state is
none_by style lines state (operand ∷ operands) is enough = search rules

runs : (bound : ℕ) (style : Style) (lines : List Line) (state : State) → needed (length lines) state ≤ bound
    → 1 ≤ state.current → Runs style lines state (plan_within bound style lines state)
runs zero style lines state enough some = search (rules, none_by)
runs (suc bound) style lines state enough some =
    (elim (attempt style lines state) as (λ attempt. Attempted style lines state attempt
    → Runs style lines state (after bound style lines state attempt)) [
      | ends ending ↦ λ is. is
      | goes step next ↦ λ is. is.2 _ (runs bound style lines next (omega arith) is.1)
    ]) (search (rules, attempted_of))

pub runs_on : (style : Style) (lines : List Line) (state : State) → 1 ≤ state.current
    → Runs style lines state (plan_within (needed (length lines) state) style lines state)
runs_on style lines state some = search (rules, runs)

enough_at_start : (total : ℕ) (operands : List Operand) → needed total (start operands) ≤ length operands * (total + 1)
enough_at_start total operands = omega (arith, fewer_operands total (start operands) operands)

pub plan_runs : (style : Style) (operands : List Operand) (lines : List Line)
    → Runs style lines (start operands) (plan style operands lines)
plan_runs style operands lines = search (rules, runs, enough_at_start)

pub plan_once : {style : Style} {operands : List Operand} {lines : List Line} {other : Plan}
    → Runs style lines (start operands) other → plan style operands lines ≡ other
plan_once is = search (rules, computed, enough_at_start)

-- The cuts over some lines are cuts over more lines, too

pub cuts_still : (style : Style) (a b : List Line) (state : State) (operand : Operand) (target : Target)
    (cut : CutPoint) → CutsAt style a state operand target cut → CutsAt style (a ++ b) state operand target cut
cuts_still style a b state operand target cut at = grind (arith, common_steps)

abbrev pub cut_still : {style : Style} {a : List Line} (b : List Line) {state : State} {cut : CutPoint}
    → IsCut style a state cut → IsCut style (a ++ b) state cut
cut_still {style} {a} b {state} {cut} its = record {
  operand = its.operand;
  operands = its.operands;
  are = its.are;
  cuts = cuts_still style a b state its.operand its.operand.target cut its.cuts;
}

pub goes_on : {style : Style} {a : List Line} (b : List Line) {first : State} {plan more : Plan}
    → Runs style a first plan → Runs style (a ++ b) plan.last more
    → Runs style (a ++ b) first (after_steps plan.steps more)
goes_on {a = a} b {more = more} (cuts state cut its from within plan run) rest =
    cuts state cut (cut_still b its) from (omega (arith, within, length-append a b)) (after_steps plan.steps more)
    (goes_on b run rest)
goes_on b run rest = rest
