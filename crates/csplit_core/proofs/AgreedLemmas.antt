-- What is settled is what all continuations agree on, and where lines go.
use Rattle.std.proofs.{
  Common.{◌≡◌, inl, inr, ℕ, suc, ◌+◌, ◌-◌, ◌<◌, ◌≤◌, ◌&&◌, Bool, true, false, cond, List, [], ◌∷◌, ◌++◌},
  Common.{length, get_or, refl, sym, ◌∙◌, ap, arith, length-append, zero, map, take, drop, append_assoc, nat_lt},
  Common.{nat_le, min, length-take, ◌⊎◌, ne_eqb, eq-eqb, length-drop, length-take-le, rules, ◌≢◌},
  lemmas.{
    Bool.{cases_lt, false≢true, Decides.nat_tests},
    List.{append-nil, map-append, take-append-drop, drop-drop, drop_all, take_all},
    Grind.common_steps,
  },
}
use Rattle.csplit_core.specs.{
  Agreed.{CanCome, kept_lines, whole_outputs, settled_outputs, AreFronts, IsAgreed},
  Operand.{Minus, Target, Number, Search, Operand, Line, Plus, is_kept},
  Plan.{State, start, Step, Ending, below, missed, Plan, ended, after_steps, CutPoint, search_line, MatchesNone},
  Plan.{Misses, CutsAt, IsCut, line_after, state_after, step_of, Runs, is_used_up, misses, is_above, is_below, cuts},
  laws.PlanLaws.{line_some, past_near, runs_on, goes_on, plan_runs, plan_once, cut_still, less_test, not_less_test},
  laws.SectionLaws.{between_still, ends_as, are_within, closed_still, plan_grows, whole_covers, plan_goes_on},
  inner.PlanLaws.{AreWithin, EndsAs, GoesOn},
  Planned.plan,
  Section.{Section, section, section_of, lines_between, is_last_kept, whole_end, settled_end, whole_sections},
  Section.{is_final, waiting_lines},
  Place.{Place, in_section, left_out, nowhere, place_from, place_of, IsUndecided, is_in, lines_into, ArePlaced},
}
use Rattle.csplit_core.proofs.WholeLemmas.{between_rest, after_within, ends_after_all}
use Rattle.engine_core.{specs.Written.IsBeginning, proofs.AgreedLemmas.{agreed_as, nothing_waits}}
use Rattle.bre_core.specs.Pattern.{Pattern}
use Rattle.operand_core.specs.Style.{Style}

-- One more line that each operand finds

matched_within : (style : Style) (lines : List Line) (state : State) (operand : Operand) (target : Target)
    (cut : CutPoint) → CutsAt style lines state operand target cut → state.matched ≤ length lines
    → cut.matched ≤ length lines
matched_within style lines state operand target cut at within = search rules

current_grows : {style : Style} {lines : List Line} {first : State} {plan : Plan} → Runs style lines first plan
    → first.current ≤ plan.last.current
current_grows {style} (cuts state cut its least within plan rest) =
    omega (arith, current_grows rest, line_some style.suppress cut.line)
current_grows run = omega arith

search_near : (suppress : Bool) (operand : Operand) (operands : List Operand) (repetition : ℕ) (cut : CutPoint)
    {total : ℕ} → cut.matched ≤ total → cut.line ≤ total
    → search_line suppress (state_after suppress operand operands repetition cut) ≤ suc total
search_near suppress operand operands repetition cut few within = search rules

first_search : (suppress : Bool) (operands : List Operand) → search_line suppress (start operands) ≤ 1
first_search suppress operands = search rules

search_within : {style : Style} {lines : List Line} {first : State} {plan : Plan} → Runs style lines first plan
    → first.matched ≤ length lines → search_line style.suppress first ≤ suc (length lines)
    → (search_line style.suppress plan.last ≤ suc (length lines)) ⊎ (length lines < plan.last.current)
search_within {style} {lines} (cuts state cut its from in_lines plan rest) matched within =
    let few = matched_within style lines state its.operand its.operand.target cut its.cuts matched in
    elim (cases_lt (length lines) cut.line) [
      | inl past ↦ inr (omega (arith, current_grows rest, line_some style.suppress cut.line))
      | inr here ↦ search_within rest few (search_near style.suppress its.operand its.operands state.repetition cut few here)
    ]
search_within run matched within = inl within

-- a line that each operand finds
abbrev pub matching : List Line
matching = record { text = 10 ∷ []; marks = λ operand. true } ∷ []

pub none_comes : CanCome []
none_comes = search rules

pub matching_comes : CanCome matching
matching_comes = search rules

-- with one more line that each operand finds the operand makes this cut: the section ends there, or the cut is too low
pub data Turned (style : Style) (x : List Line) (state : State) (operand : Operand) (cut : ℕ) : Type 0 where
  too_low : cut < state.current
      → Runs style (x ++ matching) state (ended state (below operand state.repetition))
      → Turned style x state operand cut
  turns : state.current ≤ cut → (rest : Plan)
      → Runs style (x ++ matching) state
      (after_steps (step_of state operand (record { matched = suc (length x); line = cut }) ∷ []) rest)
      → Turned style x state operand cut

turned_by : {style : Style} {x : List Line} {state : State} (cut : ℕ) → 1 ≤ state.current
    → (its : IsCut style (x ++ matching) state (record { matched = suc (length x); line = cut }))
    → cut ≤ length (x ++ matching) → Turned style x state its.operand cut
turned_by {style} {x} {state} cut some its within = elim (cases_lt cut state.current) [
  | inl low ↦ too_low low (is_below state _ its low)
  | inr from ↦
      turns from _ (cuts state _ its from (omega arith) _
      (runs_on _ _ _ (omega (arith, line_some style.suppress cut))))
]

agrees : {style : Style} {x : List Line} {state : State} {operand : Operand} {operands : List Operand}
    (pattern : Pattern) (kept : Bool) (k : ℕ) → 1 ≤ state.current → state.operands ≡ operand ∷ operands
    → operand.target ≡ Search pattern kept (Minus k)
    → MatchesNone operand x (search_line style.suppress state) → search_line style.suppress state ≤ suc (length x)
    → Turned style x state operand (suc (length x) - k)
agrees {style} {x} {state} {operand} {operands} pattern kept k some is target none within =
    turned_by (suc (length x) - k) some
    (record { operand = operand; operands = operands; are = is; cuts = (grind (arith, common_steps)) })
    (omega (arith, length-append x matching))

-- At the end of a plan either nothing waits, since no line is left or all lines are settled; or one more line makes a
-- cut that goes back.
pub data Waits (style : Style) (x : List Line) (state : State) (ending : Ending) : Type 0 where
  none_waits : whole_end (length x) ending ≡ settled_end (length x) ending → Waits style x state ending
  none_left : length x < state.current → Waits style x state ending
  some_wait : {operand : Operand} (k : ℕ) → is_last_kept ending ≡ is_kept operand.target
      → settled_end (length x) ending ≡ suc (length x) - k → Turned style x state operand (suc (length x) - k)
      → Waits style x state ending

waits_in : {style : Style} {x : List Line} {state : State} (ending : Ending) → EndsAs style x state ending
    → 1 ≤ state.current → search_line style.suppress state ≤ suc (length x) → Waits style x state ending
waits_in {style} {x} {state} (missed operand repetition) (left, are, none, often) some within = by operand.target refl none where
  by : (target : Target) → operand.target ≡ target → Misses style x state operand target
      → Waits style x state (missed operand repetition)
  by (Number n) is none = absurd none
  by (Search pattern kept (Plus k)) is none = none_waits (search rules)
  by (Search pattern kept (Minus k)) is none = some_wait k refl (search rules) (agrees pattern kept k some are is none within)
waits_in _ ends some within = none_waits (omega arith)

waits_by : {style : Style} {x : List Line} {state : State} (ending : Ending) → EndsAs style x state ending
    → 1 ≤ state.current → (search_line style.suppress state ≤ suc (length x)) ⊎ (length x < state.current)
    → Waits style x state ending
waits_by ending ends some (inl within) = waits_in ending ends some within
waits_by ending ends some (inr past) = none_left past

-- What is settled is what all continuations agree on.

-- Outputs

kept_grow : (front : List Section) (begun other : Section) (more : List Section) → begun.is_kept ≡ other.is_kept
    → IsBeginning begun.lines other.lines
    → AreFronts (kept_lines (front ++ begun ∷ [])) (kept_lines (front ++ other ∷ more))
kept_grow [] begun other more same begins = search rules
kept_grow (one ∷ front) begun other more same begins = search (rules, kept_grow front begun other more same begins)

kept-append : (a b : List Section) → kept_lines (a ++ b) ≡ kept_lines a ++ kept_lines b
kept-append [] b = refl
kept-append (one ∷ a) b = search (rules, kept-append a b)

-- no front is longer than the whole

no_longer : (front : List Section) (one other : Section) (more : List Section) (place : ℕ) → one.is_kept ≡ other.is_kept
    → length other.lines ≤ length one.lines → place < length (kept_lines (front ++ one ∷ []))
    → length (get_or (kept_lines (front ++ other ∷ more)) place []) ≤ length
    (get_or (kept_lines (front ++ one ∷ [])) place [])
no_longer front one other more place same short less = grind (arith, common_steps, kept-append)

-- The lines that wait are those that two continuations put into different places.

-- after a cut, a line that is neither before it nor left out is the current line or a later one
pub left_by : (suppress : Bool) (line cut : ℕ) → nat_lt line cut ≡ false → (suppress && nat_le line cut) ≡ false
    → line_after suppress cut ≤ line
left_by suppress line cut is are = search rules

pub not_left : (suppress : Bool) (line cut : ℕ) → line_after suppress cut ≤ line → (suppress && nat_le line cut) ≡ false
not_left suppress line cut rest' = grind (arith, nat_tests, rest')

same_by : (lt le : Bool) (index : ℕ) (one other : Place) → (lt ≡ false → le ≡ false → one ≡ other)
    → cond lt (in_section index) (cond le (left_out index) one)
    ≡ cond lt (in_section index) (cond le (left_out index) other)
same_by lt le index one other same = search rules

-- plans that go on from one plan put each line before the current line into the same place
place_front : {style : Style} {lines : List Line} {first : State} {plan : Plan} → Runs style lines first plan
    → (total total' index line : ℕ) (more more' : Plan) → first.current ≤ line → line < plan.last.current
    → place_from style.suppress total index (plan.steps ++ more.steps) more.ending line
    ≡ place_from style.suppress total' index (plan.steps ++ more'.steps) more'.ending line
place_front {style} (cuts state cut its least within plan rest) total total' index line more more' from before =
    same_by (nat_lt line cut.line) (style.suppress && nat_le line cut.line) index _ _
    (λ lt le. place_front rest total total' (index + 1) line more more' (left_by style.suppress line cut.line lt le) before)
place_front run total total' index line more more' from before = absurd (omega arith)

-- from the current line on, the steps that follow decide where a line goes
place_after : {style : Style} {lines : List Line} {first : State} {plan : Plan} → Runs style lines first plan
    → (total index line : ℕ) (more : Plan) → plan.last.current ≤ line
    → place_from style.suppress total index (plan.steps ++ more.steps) more.ending line
    ≡ place_from style.suppress total (index + length plan.steps) more.steps more.ending line
place_after {style} (cuts state cut its least within plan rest) total index line more from =
    search (rules, line_some, current_grows rest, not_less_test, not_left, place_after rest total (index + 1) line more from)
place_after {style} run total index line more from = search rules

-- what is settled of the open section is in this section whatever comes

settled_place : {style : Style} (a b : List Line) {last : State} (ending : Ending) → EndsAs style a last ending
    → {more : Plan} → Runs style (a ++ b) last more → {index : ℕ} (line : ℕ) → last.current ≤ line
    → line < settled_end (length a) ending
    → place_from style.suppress (length (a ++ b)) index more.steps more.ending line ≡ in_section index
settled_place a b ending ends (is_used_up state none) line from before = grind (arith, common_steps)
settled_place a b ending ends (misses state operand operands are none) line from before = grind (arith, common_steps)
settled_place a b ending ends (is_above state cut its least far) line from before = grind (arith, common_steps)
settled_place a b ending ends (is_below state cut its low) line from before = grind (arith, common_steps)
settled_place a b ending ends (cuts state cut its least in_lines plan rest) line from before = grind (arith, common_steps)

-- if the cut is below the current line, all lines go nowhere

nowhere_by : {style : Style} {lines : List Line} {first : State} (cut : CutPoint) → IsCut style lines first cut
    → cut.line < first.current → {more : Plan} → Runs style lines first more → (index line : ℕ)
    → place_from style.suppress (length lines) index more.steps more.ending line ≡ nowhere
nowhere_by cut its low run index line = search rules

-- A line that doesn't wait has one place

decided_by : (style : Style) (a b : List Line) {last : State} (ending : Ending) → 1 ≤ last.current
    → EndsAs style a last ending → (line : ℕ) → last.current ≤ line → line ≤ length a
    → ((is_final ending ≡ false) → settled_end (length a) ending ≤ line → ⊥)
    → (index : ℕ) {more : Plan} → Runs style (a ++ b) last more
    → place_from style.suppress (length (a ++ b)) index more.steps more.ending line ≡ cond (is_final ending) nowhere
    (in_section index)
decided_by style a b (missed operand repetition) some is line from within not index rest =
    settled_place a b (missed operand repetition) is rest line from
    (search (rules, cases_lt))
decided_by style a b {last} (below operand repetition) some (operands, cut, is, at, low, often) line from within not index rest =
    nowhere_by cut (cut_still b (record { operand = operand; operands = operands; are = is; cuts = at })) low rest index line
decided_by style a b ending some is line from within not index rest = settled_place a b ending is rest line from (omega arith)

-- A line that waits has two places

step_later : {index : ℕ} (other : ℕ) {rest' : Place} → index < other → (rest' ≡ in_section index → ⊥) → (lt le : Bool)
    → cond lt (in_section other) (cond le (left_out other) rest') ≡ in_section index → ⊥
step_later other less later lt le same = search rules

-- a line in a later section isn't in this section
pub in_later : (suppress : Bool) (total : ℕ) {index : ℕ} (other line : ℕ) (steps : List Step) (how : Ending)
    → index < other → place_from suppress total other steps how line ≡ in_section index → ⊥
in_later suppress total other line [] how less is = search rules
in_later suppress total other line (step ∷ steps) how less is =
    step_later other less (λ same. in_later suppress total (other + 1) line steps how (omega arith) same)
    (nat_lt line step.cut) (suppress && nat_le line step.cut) is

-- one more line takes a line from the cut on out of the section

turned_away : {style : Style} {x : List Line} {state : State} {operand : Operand} (k line : ℕ)
    → Turned style x state operand (suc (length x) - k) → suc (length x) - k ≤ line
    → (plan : Plan) × Runs style (x ++ matching) state plan
    × ((index : ℕ) → place_from style.suppress (length (x ++ matching)) index plan.steps plan.ending line
    ≡ in_section index → ⊥)
turned_away k line fact from = search (rules, not_less_test, in_later)

-- Places are right: each section has the lines that go into it.

-- Which lines go into a section

into-append : (s : ℕ) (places : ℕ → Place) (n : ℕ) (a b : List Line)
    → lines_into s places n (a ++ b) ≡ lines_into s places n a ++ lines_into s places (n + length a) b
into-append s places n [] b = search rules
into-append s places n (line ∷ a) b = search (rules, into-append s places (n + 1) a b)

into_all : {s : ℕ} (places : ℕ → Place) (n : ℕ) (a : List Line)
    → ((line : ℕ) → n ≤ line → line < n + length a → places line ≡ in_section s) → lines_into s places n a ≡ a
into_all places n [] here = refl
into_all {s} places n (line ∷ a) here = search (
  rules,
  eq-eqb s s refl,
  here n (omega arith)
      (omega arith),
  into_all places (n + 1) a (λ k from within. here k (omega arith) (omega arith)),
)

into_none : (s : ℕ) (places : ℕ → Place) (n : ℕ) (a : List Line)
    → ((line : ℕ) → n ≤ line → line < n + length a → is_in s (places line) ≡ false) → lines_into s places n a ≡ []
into_none s places n [] not_in = refl
into_none s places n (line ∷ a) not_in = search (
  rules,
  not_in n (omega arith) (omega arith),
  into_none s places
      (n + 1) a (λ k from within. not_in k (omega arith) (omega arith)),
)

into_same : (s : ℕ) (places others : ℕ → Place) (n : ℕ) (a : List Line)
    → ((line : ℕ) → n ≤ line → line < n + length a → places line ≡ others line)
    → lines_into s places n a ≡ lines_into s others n a
into_same s places others n [] same = refl
into_same s places others n (line ∷ a) same = search (
  rules,
  same n (omega arith)
      (omega arith),
  into_same s places others (n + 1) a (λ k from within. same k (omega arith) (omega arith)),
)

-- The last section

end_is : {total : ℕ} (ending : Ending) → (whole_end total ending ≡ suc total) ⊎ (whole_end total ending ≡ 0)
end_is (below operand repetition) = inr refl
end_is ending = inl refl

-- A step, and what follows this step

abbrev places_with : Bool → ℕ → ℕ → (ℕ → Place) → ℕ → Place
places_with suppress index cut later line = cond (nat_lt line cut) (in_section index) (cond (suppress && nat_le line cut) (left_out index) (later line))

left_there : (suppress : Bool) (cut line : ℕ) → cut ≤ line → line < line_after suppress cut
    → (suppress && nat_le line cut) ≡ true
left_there suppress cut line from within = grind (arith, nat_tests, from, within)

step_within : (suppress : Bool) (lines : List Line) (current cut index s : ℕ) (later : ℕ → Place) → 1 ≤ current
    → current ≤ cut → cut ≤ length lines
    → lines_into s (places_with suppress index cut later) current (drop (current - 1) lines)
    ≡ lines_into s (places_with suppress index cut later) current (lines_between current cut lines)
    ++ lines_into s later (line_after suppress cut) (drop (line_after suppress cut - 1) lines)
step_within suppress lines current cut index s later some least within =
    let places = places_with suppress index cut later in
    let next = line_after suppress cut in
    let least_next : cut ≤ next = line_some suppress cut in
    let most_next : next ≤ suc cut = after_within suppress cut cut (omega arith) in
    let front : length (lines_between current cut lines) ≡ cut - current = search (rules, length-take-le, length-drop) in
    let middle : length (lines_between cut next lines) ≡ next - cut = search (rules, length-take-le, length-drop) in
    ap (lines_into s places current) (sym (between_rest current cut lines some least))
    ∙ into-append s places current (lines_between current cut lines) (drop (cut - 1) lines)
    ∙ ap (λ those. lines_into s places current (lines_between current cut lines) ++ those)
    (ap (λ n. lines_into s places n (drop (cut - 1) lines)) (let e : current + length (lines_between current cut lines) ≡ cut = omega arith in e)
    ∙ ap (lines_into s places cut) (search (rules, between_rest))
    ∙ into-append s places cut (lines_between cut next lines) (drop (next - 1) lines)
    ∙ ap (λ those. those ++ lines_into s places (cut + length (lines_between cut next lines)) (drop (next - 1) lines))
    (into_none s places cut (lines_between cut next lines) (search (rules, not_less_test, left_there)))
    ∙ ap (λ n. lines_into s places n (drop (next - 1) lines)) (let e : cut + length (lines_between cut next lines) ≡ next = omega arith in e)
    ∙ into_same s places later next (drop (next - 1) lines) (search (rules, not_less_test, not_left)))

-- the cut is past the last line
step_past : (suppress : Bool) (lines : List Line) (current cut index s : ℕ) (later : ℕ → Place) → 1 ≤ current
    → current ≤ cut → length lines < cut
    → lines_into s (places_with suppress index cut later) current (drop (current - 1) lines)
    ≡ lines_into s (places_with suppress index cut later) current (lines_between current cut lines)
    ++ lines_into s later (line_after suppress cut) (drop (line_after suppress cut - 1) lines)
step_past suppress lines current cut index s later some least past =
    let next = line_after suppress cut in
    let least_next : cut ≤ next = line_some suppress cut in
    let all : lines_between current cut lines ≡ drop (current - 1) lines =
    take_all (cut - current) (drop (current - 1) lines) (omega (arith, length-drop (current - 1) lines)) in
    let none : drop (next - 1) lines ≡ [] = drop_all (next - 1) lines (omega arith) in
    rw (all, none) (sym (append-nil _))

-- the lines before the cut, the line at the cut, and the lines after the cut
step_parts : (suppress : Bool) (lines : List Line) (current cut index s : ℕ) (later : ℕ → Place) → 1 ≤ current
    → current ≤ cut → cut ≤ length lines + 1
    → lines_into s (places_with suppress index cut later) current (drop (current - 1) lines)
    ≡ lines_into s (places_with suppress index cut later) current (lines_between current cut lines)
    ++ lines_into s later (line_after suppress cut) (drop (line_after suppress cut - 1) lines)
step_parts suppress lines current cut index s later some least near = elim (cases_lt (length lines) cut) [
  | inl past ↦ step_past suppress lines current cut index s later some least past
  | inr within ↦ step_within suppress lines current cut index s later some least within
]

step_before : (suppress : Bool) (lines : List Line) (current cut : ℕ) {index : ℕ} (later : ℕ → Place) (line : ℕ)
    → 1 ≤ current → current ≤ cut → line < current + length (lines_between current cut lines)
    → places_with suppress index cut later line ≡ in_section index
step_before suppress lines current cut later line some least before = grind (arith, common_steps)

placed_from : {style : Style} {lines : List Line} {first : State} {plan : Plan} → Runs style lines first plan
    → 1 ≤ first.current → (index k : ℕ) {s : ℕ} → s ≡ index + k
    → get_or (map (λ (one : Section). one.lines) (whole_sections lines plan)) k []
    ≡ lines_into s (place_from style.suppress (length lines) index plan.steps plan.ending) first.current
    (drop (first.current - 1) lines)
placed_from {style} {lines} (cuts state cut its least within plan rest) some index zero {s} at =
    let later = place_from style.suppress (length lines) (index + 1) plan.steps plan.ending in
    sym (step_parts style.suppress lines state.current cut.line index s later some least (omega (arith, within, past_near style its.operand.target)) ∙ (grind (
      arith,
      common_steps,
      (into_none s later (line_after style.suppress cut.line) (drop (line_after style.suppress cut.line - 1) lines)
          (search (rules, in_later))),
    ))
    ∙ into_all (place_from style.suppress (length lines) index (step_of state its.operand cut ∷ plan.steps) plan.ending) state.current
    (lines_between state.current cut.line lines)
    (λ line from before. step_before style.suppress lines state.current cut.line later line some least before
    ∙ ap in_section (let e : index ≡ s = omega arith in e)))
placed_from {style} {lines} (cuts state cut its least within plan rest) some index (suc k) {s} at =
    let later = place_from style.suppress (length lines) (index + 1) plan.steps plan.ending in
    placed_from rest (omega (arith, line_some style.suppress cut.line)) (index + 1) k (omega arith)
    ∙ sym (step_parts style.suppress lines state.current cut.line index s later some least (omega (arith, within, past_near style its.operand.target))
    ∙ ap (λ those. those ++ lines_into s later (line_after style.suppress cut.line) (drop (line_after style.suppress cut.line - 1) lines))
    (into_none s (place_from style.suppress (length lines) index (step_of state its.operand cut ∷ plan.steps) plan.ending) state.current
    (lines_between state.current cut.line lines)
    (search (rules, step_before, ne_eqb))))
placed_from {lines} {first} {plan} run some index k at = grind (arith, common_steps, into_all, less_test, into_none, not_less_test, end_is)

-- Lines in no section

record LeftAt (suppress : Bool) (index cut line : ℕ) (steps : List Step) : Type 0 where
  so : suppress ≡ true
  k : ℕ
  at : cut ≡ index + k
  is : get_or (map (λ (step : Step). step.cut) steps) k 0 ≡ line

left_by_step : {suppress : Bool} {index : ℕ} (cut line : ℕ) {step : Step} {steps : List Step} {later : Place}
    (lt le : Bool) → nat_lt line step.cut ≡ lt → (suppress && nat_le line step.cut) ≡ le
    → (later ≡ left_out cut → LeftAt suppress (index + 1) cut line steps)
    → cond lt (in_section index) (cond le (left_out index) later) ≡ left_out cut
    → LeftAt suppress index cut line (step ∷ steps)
left_by_step cut line true le lt_is le_is rest same = absurd (cc)
left_by_step cut line false true lt_is le_is rest same = search rules
left_by_step {index} cut line false false lt_is le_is rest same =
    let there = rest same in let at : cut ≡ index + 1 + there.k = there.at in record { so = there.so; k = suc there.k; at = omega arith; is = there.is }

left_at : (suppress : Bool) (total index cut line : ℕ) (steps : List Step) (ending : Ending)
    → place_from suppress total index steps ending line ≡ left_out cut → LeftAt suppress index cut line steps
left_at suppress total index cut line [] ending same = absurd (search rules)
left_at suppress total index cut line (step ∷ steps) ending same =
    left_by_step {suppress = suppress} {index = index} cut line {step = step} {steps = steps}
    {later = place_from suppress total (index + 1) steps ending line} (nat_lt line step.cut)
    (suppress && nat_le line step.cut) refl refl (left_at suppress total (index + 1) cut line steps ending) same

-- sections follow one another
module _ (suppress : Bool) (total : ℕ) (ending : Ending) where
  none_earlier : (index : ℕ) (steps : List Step) (line section : ℕ)
      → place_from suppress total index steps ending line ≡ in_section section → index ≤ section
  none_earlier index [] line section is = grind arith
  none_earlier index (step ∷ steps) line section is = grind (arith, none_earlier (index + 1) steps line section)

  sections_rise : (index : ℕ) (steps : List Step) (line later section other : ℕ) → line ≤ later
      → place_from suppress total index steps ending line ≡ in_section section
      → place_from suppress total index steps ending later ≡ in_section other → section ≤ other
  sections_rise index [] line later section other few is also = grind arith
  sections_rise index (step ∷ steps) line later section other few is also = grind (
    arith,
    none_earlier index (step ∷ steps) later other,
    sections_rise (index + 1) steps line later section other few,
  )

nowhere_by_step : (lt le : Bool) (index : ℕ) {later : Place} (A : Type 0)
    → (lt ≡ false → le ≡ false → later ≡ nowhere → A)
    → cond lt (in_section index) (cond le (left_out index) later) ≡ nowhere → A
nowhere_by_step lt le index A rest same = search rules

nowhere_at : {style : Style} {lines : List Line} {first : State} {plan : Plan} → Runs style lines first plan
    → (index line : ℕ) → first.current ≤ line → line ≤ length lines
    → place_from style.suppress (length lines) index plan.steps plan.ending line ≡ nowhere
    → (is_final plan.ending ≡ true) × (plan.last.current ≤ line)
nowhere_at (is_below state cut its low) index line from within same = (refl, from)
nowhere_at {style} (cuts state cut its least in_lines plan rest) index line from within same =
    nowhere_by_step (nat_lt line cut.line) (style.suppress && nat_le line cut.line) index ((is_final plan.ending ≡ true) × (plan.last.current ≤ line))
    (λ lt le later. nowhere_at rest (index + 1) line (left_by style.suppress line cut.line lt le) within later) same
nowhere_at run index line from within same = absurd (search rules)

-- The plan over the lines that came in

module _ (style : Style) (operands : List Operand) (x : List Line) where
  abbrev made : Plan
  made = plan style operands x

  here : Runs style x (start operands) made
  here = plan_runs style operands x

  inside : AreWithin (length x) made.steps × (1 ≤ made.last.current)
  inside = are_within here (omega arith)

  end_waits : Waits style x made.last made.ending
  end_waits = waits_by made.ending (ends_as here) inside.1 (search_within here (omega arith) (let e = first_search style.suppress operands in omega arith))

  -- What is settled is what all continuations agree on.

  fewest : length (whole_outputs style operands (x ++ [])) ≡ length (settled_outputs style operands x)
  fewest = grind (arith, common_steps, append-nil, kept-append)

  -- what is settled of the last section
  abbrev open_lines : List Line
  open_lines = lines_between made.last.current (settled_end (length x) made.ending) x

  -- A continuation after which the open section has no more lines than are settled
  record Decides : Type 0 where
    y : List Line
    comes : CanCome y
    next : Section
    more : List Section
    are : whole_sections (x ++ y) (plan style operands (x ++ y)) ≡ map (section_of x) made.steps ++ next ∷ more
    kept : is_last_kept made.ending ≡ next.is_kept
    short : length next.lines ≤ length open_lines

  -- Such a continuation exists: no line, or, with an offset that goes back, one line that the operand finds

  decides_by : (y : List Line) {more : Plan} → CanCome y → Runs style (x ++ y) made.last more → {next : Section}
      {rest' : List Section} → whole_sections (x ++ y) more ≡ next ∷ rest' → is_last_kept made.ending ≡ next.is_kept
      → length next.lines ≤ length open_lines → Decides
  decides_by y comes rest {next} {rest'} are kept short = record {
    y = y;
    comes = comes;
    next = next;
    more = rest';
    are = rw (plan_once (goes_on y here rest)) (search (rules, map-append, closed_still, inside, append_assoc));
    kept = kept;
    short = short;
  }

  decides : Waits style x made.last made.ending → Decides
  decides (none_waits same) = record {
    y = [];
    comes = none_comes;
    next = section (is_last_kept made.ending) true (lines_between made.last.current (whole_end (length x) made.ending) x);
    more = [];
    are = search (rules, append-nil);
    kept = refl;
    short = search rules;
  }
  decides (none_left past) = record {
    y = [];
    comes = none_comes;
    next = section (is_last_kept made.ending) true (lines_between made.last.current (whole_end (length x) made.ending) x);
    more = [];
    are = search (rules, append-nil);
    kept = refl;
    short = search (rules, drop_all);
  }
  decides (some_wait k kept past (too_low low rest)) =
      decides_by matching matching_comes rest refl kept
      (let e : length (lines_between made.last.current 0 (x ++ matching)) ≡ 0 = (search rules) in omega arith)
  decides (some_wait k kept past (turns from plan rest)) =
      decides_by matching matching_comes rest refl kept
      (let e : length (lines_between made.last.current (suc (length x) - k) (x ++ matching)) ≡ length open_lines
      = search (rules, between_still, inside) in omega arith)

  pub settled_is_agreed : IsAgreed (whole_outputs style operands) x (settled_outputs style operands x)
  settled_is_agreed =
      let decides = decides end_waits in
      agreed_as [] decides.y (λ y comes. (search (rules, kept_grow, (plan_grows style true operands x y _ (whole_covers (length (x ++ y)) _)))))
      none_comes decides.comes fewest
      (λ place less. search (rules, decides, no_longer))

  -- The lines that wait are those that two continuations put into different places.

  -- the line of this number came in, and stands after what is settled of the last section
  abbrev WaitsAt : ℕ → Type 0
  WaitsAt line = (is_final made.ending ≡ false) × (made.last.current ≤ line) × (settled_end (length x) made.ending ≤ line) × (line ≤ length x)

  goes : (y : List Line) → GoesOn style operands x y
  goes = plan_goes_on operands x

  -- a line from the current line on has one place if it doesn't wait
  place_there : (y : List Line) (line : ℕ) → made.last.current ≤ line → line ≤ length x → (WaitsAt line → ⊥)
      → place_of style operands (x ++ y) line
      ≡ cond (is_final made.ending) nowhere (in_section (0 + length made.steps))
  place_there y line from within not = rw (goes y).is (place_after here (length (x ++ y)) 0 line (goes y).more from
      ∙ decided_by style x y _ inside.1 (ends_as here) line from within
      (λ live past. not (live, from, past, within)) _ (goes y).rest)

  same_line : (y z : List Line) (line : ℕ) → 1 ≤ line → line ≤ length x → (WaitsAt line → ⊥)
      → place_of style operands (x ++ y) line ≡ place_of style operands (x ++ z) line
  same_line y z line some within not = elim (cases_lt line made.last.current) [
    | inl before ↦ rw ((goes y).is, (goes z).is) (search (rules, place_front, here, goes))
    | inr from ↦ place_there y line from within not ∙ sym (place_there z line from within not)
  ]

  -- one continuation leaves a line that waits in its section, and another doesn't
  differ_line : (line : ℕ) → WaitsAt line → Waits style x made.last made.ending
      → (y : List Line) × (z : List Line) × CanCome y × CanCome z
      × (place_of style operands (x ++ y) line ≢ place_of style operands (x ++ z) line)
  differ_line line (live, from, past, within) (none_waits same) = search (rules, ends_after_all)
  differ_line line (live, from, past, within) (none_left none) = absurd (omega arith)
  differ_line line (live, from, past, within) (some_wait k kept settled agrees) =
      let away = turned_away k line agrees (omega arith) in (
        [],
        matching,
        none_comes,
        matching_comes,
        λ same. away.2 (0 + length made.steps)
            (sym (ap (λ (p : Plan). place_from style.suppress (length (x ++ matching)) 0 p.steps p.ending line)
            (plan_once (goes_on matching here away.1))
            ∙ place_after here (length (x ++ matching)) 0 line away.0 from)
            ∙ rw (append-nil x) at (sym same)
            ∙ (ap (λ those. place_from style.suppress (length x) 0 those made.ending line) (sym (append-nil made.steps))
            ∙ place_after here (length x) 0 line (ended made.last made.ending) from ∙ (search rules))),
      )

  undecided_by : (final : Bool) → is_final made.ending ≡ final → IsUndecided (place_of style operands) x
      (cond final []
      (drop (settled_end (length x) made.ending - made.last.current) (drop (made.last.current - 1) x)))
  undecided_by true final = search (rules, nothing_waits, same_line, false≢true)
  undecided_by false live =
      let n = made.last.current - 1 + (settled_end (length x) made.ending - made.last.current) in
      let some : 1 ≤ made.last.current = inside.1 in
      let count : length (take n x) ≡ min n (length x) = length-take n x in record {
        before = take n x;
        are_last = search (rules, take-append-drop, drop-drop);
        differ = λ i past within.
            let (y, z, can, also, apart) = differ_line (i + 1) (search rules) end_waits in
            (y, z, place_of style operands (x ++ y) (i + 1), can, also, refl, λ same. apart (sym same));
        decided = λ i less y z at can also is. sym (same_line y z (i + 1) (omega arith) (search rules) (search rules)) ∙ is;
      }

  pub waiting_is_undecided : IsUndecided (place_of style operands) x (waiting_lines x made)
  waiting_is_undecided = undecided_by (is_final made.ending) refl

  -- Places are right.

  pub are_placed : ArePlaced (place_of style operands x) style.suppress made x
  are_placed = record {
    sections = λ k. placed_from here (omega arith) 0 k (omega arith);
    order = sections_rise style.suppress (length x) made.ending 0 made.steps;
    cuts = λ line cut some same.
        let left = left_at style.suppress (length x) 0 cut line made.steps made.ending same in
        (left.so, ap (λ n. get_or (map (λ (step : Step). step.cut) made.steps) n 0) (let e : cut ≡ left.k = omega arith in e) ∙ left.is);
    rest = λ line some within same. nowhere_at here 0 line some within same;
  }
