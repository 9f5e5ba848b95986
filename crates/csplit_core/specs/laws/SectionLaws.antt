-- Laws that traits cite: what sections are when more lines come.
use Rattle.std.proofs.{
  lemmas.{Grind.{common_steps, flat_map-append}, List.{append-nil, map-append}},
  Common.{rules, ◌≡◌, ◌⊎◌, inl, inr, ℕ, zero, suc, ◌+◌, ◌-◌, ◌≤◌, Bool, true, false, cond, List, [], ◌∷◌, ◌++◌},
  Common.{length, map, take, drop, refl, sym, subst, arith, append_assoc, length-append},
}
use Rattle.engine_core.{
  specs.{Draft.{share, made_of, part_of as part_by}, Written.Begins, inner.Shares.SharesBegin},
  proofs.ShareLemmas.{made_begin, part_grows, shares_wider},
}
use Rattle.ports_core.specs.{Slot.has_file, declared.slot.State.TheVariants.{Open, Closed}}
use Rattle.csplit_core.specs.{
  Operand.{Operand, Line},
  Plan.{State, Step, Ending, Plan, Runs, is_used_up, misses, is_above, is_below, cuts},
  Planned.plan,
  Section.{Section, section, section_of, lines_between, bytes_of, is_last_kept, whole_end, settled_end, sections_to},
  Section.settled_sections,
  Output.{Style, manner_of, opening_of, file_in, state_in, shares_in, part_of},
  Csplit.{settled_of, whole_of},
  laws.PlanLaws.{line_some, past_near, goes_on, runs_on, plan_runs, plan_once},
  inner.PlanLaws.{EndsAs, AreWithin, Next, Grow, GoesOn, CutsFrom},
}

-- Stretches of lines

pub take_begins : {X : Type 0} (n m : ℕ) (xs : List X) → n ≤ m → (rest : List X) × (take m xs ≡ take n xs ++ rest)
take_begins zero m xs less = (take m xs, refl)
take_begins (suc n) zero xs less = absurd (omega arith)
take_begins (suc n) (suc m) [] less = ([], refl)
take_begins (suc n) (suc m) (x ∷ xs) less = let rest = take_begins n m xs (omega arith) in
    (rest.0, cc)

-- more lines change nothing before them
pub between_still : (first past : ℕ) (a b : List Line) → 1 ≤ first → past ≤ length a + 1
    → lines_between first past (a ++ b) ≡ lines_between first past a
between_still first past a b some within = grind (arith, common_steps)

-- a stretch that ends later, over more lines, begins with the stretch over fewer lines
pub between_grows : (first past more : ℕ) (a b : List Line) → 1 ≤ first → past ≤ length a + 1 → (past ≤ more)
    ⊎ (past ≤ first) → (rest : List Line) × (lines_between first more (a ++ b) ≡ lines_between first past a ++ rest)
between_grows first past more a b some within (inl less) =
    let grown = take_begins (past - first) (more - first) (drop (first - 1) (a ++ b)) (omega arith) in
    (search (rules, between_still))
between_grows first past more a b some within (inr less) =
    let none : past - first ≡ 0 = omega arith in (
      lines_between first more (a ++ b),
      sym (search rules),
    )

pub ends_as : {style : Style} {lines : List Line} {first : State} {plan : Plan} → Runs style lines first plan
    → EndsAs style lines plan.last plan.ending
ends_as (is_used_up state none) = none
ends_as (misses state operand operands is none) = (operands, is, none, refl)
ends_as (is_above state cut its from far) = (its.operands, its.are, its.cuts, from, far, refl)
ends_as (is_below state cut its low) = (its.operands, cut, its.are, its.cuts, low, refl)
ends_as (cuts state cut its from within plan rest) = ends_as rest

pub are_within : {style : Style} {lines : List Line} {first : State} {plan : Plan} → Runs style lines first plan
    → 1 ≤ first.current → AreWithin (length lines) plan.steps × (1 ≤ plan.last.current)
are_within {style} (cuts state cut its from within plan rest) some =
    search (rules, line_some, past_near, are_within rest)
are_within run some = (tt, some)

pub closed_still : (a b : List Line) (steps : List Step) → AreWithin (length a) steps
    → map (section_of (a ++ b)) steps ≡ map (section_of a) steps
closed_still a b [] within = refl
closed_still a b (step ∷ steps) within = search (rules, between_still, closed_still a b steps within.3)

-- the open section goes on over more lines
module _ (a b : List Line) {first past : ℕ} (some : 1 ≤ first) (within : past ≤ length a + 1) where
  next_by : {kept other_kept : Bool} {closed : Bool} {more : ℕ} {rest : List Section}
      → (past ≤ more) ⊎ (past ≤ first) → kept ≡ other_kept
      → Next (section kept false (lines_between first past a))
      (section other_kept closed (lines_between first more (a ++ b)) ∷ rest)
  next_by {more = more} less same = let grown = between_grows first past more a b some within less in record {
    other = _;
    more = _;
    are = refl;
    kept = same;
    rest = grown.0;
    lines = grown.1;
  }

-- what is settled stands before the cut of the next operand over more lines
pub cuts_from : (style : Style) (a b : List Line) (state : State) (ending : Ending) {operands : List Operand}
    → EndsAs style a state ending → state.operands ≡ operands
    → CutsFrom style (a ++ b) state (settled_end (length a) ending) (is_last_kept ending) operands
cuts_from style a b state ending ends are = grind (arith, common_steps)

pub settled_most : (total : ℕ) (ending : Ending) → settled_end total ending ≤ total + 1
settled_most total ending = search rules

module _ {style : Style} (a b : List Line) {last : State} (ending : Ending) (some : 1 ≤ last.current)
    (ends : EndsAs style a last ending) where
  next_of : (closed : Bool) (end : ℕ) {plan : Plan} → Runs style (a ++ b) last plan
      → settled_end (length (a ++ b)) plan.ending ≤ end
      → Next (section (is_last_kept ending) false (lines_between last.current (settled_end (length a) ending) a))
      (sections_to closed end (a ++ b) plan)
  next_of closed end (is_used_up state none) covers =
      let so = cuts_from style a b last ending ends none in
      next_by a b some (settled_most (length a) ending)
      (inl (omega (arith, settled_most (length a) ending, length-append a b))) so
  next_of closed end (misses state operand operands are none) covers =
      let so = cuts_from style a b last ending ends are in
      next_by a b some (settled_most (length a) ending) (inl (omega (arith, so.2 none))) so.0
  next_of closed end (is_above state cut its from far) covers =
      let so = cuts_from style a b last ending ends its.are in
      next_by a b some (settled_most (length a) ending)
      (inl (omega (arith, settled_most (length a) ending, length-append a b))) so.0
  next_of closed end (is_below state cut its low) covers =
      let so = cuts_from style a b last ending ends its.are in
      next_by a b some (settled_most (length a) ending) (inr (omega (arith, so.1 cut its.cuts))) so.0
  next_of closed end (cuts state cut its from within plan rest) covers =
      let so = cuts_from style a b last ending ends its.are in
      next_by a b some (settled_most (length a) ending) (inl (so.1 cut its.cuts)) so.0

pub plan_goes_on : {style : Style} (operands : List Operand) (a b : List Line) → GoesOn style operands a b
plan_goes_on {style} operands a b =
    let here = plan_runs style operands a in
    let rest = runs_on style (a ++ b) (plan style operands a).last (are_within here (omega arith)).1 in
    record { more = _; rest = rest; is = plan_once (goes_on b here rest) }

pub plan_grows : (style : Style) (closed : Bool) (operands : List Operand) (a b : List Line) (end : ℕ)
    → settled_end (length (a ++ b)) (plan style operands (a ++ b)).ending ≤ end
    → Grow (settled_sections a (plan style operands a))
    (sections_to closed end (a ++ b) (plan style operands (a ++ b)))
plan_grows style closed operands a b end covers =
    let here = plan_runs style operands a in
    let goes = plan_goes_on {style = style} operands a b in
    let inside = are_within here (omega arith) in
    let next = next_of a b (plan style operands a).ending inside.1 (ends_as here) closed end goes.rest
    (rw goes.is at covers) in
    rw goes.is (grind (arith, common_steps, map-append, closed_still, inside, next))

-- What is written grows with the sections

pub bytes-append : (a b : List Line) → bytes_of (a ++ b) ≡ bytes_of a ++ bytes_of b
bytes-append [] b = refl
bytes-append (line ∷ a) b = search (rules, append_assoc, bytes-append a b)

pub shares-append : (style : Style) (a b : List Section)
    → shares_in style (a ++ b) ≡ shares_in style a ++ shares_in style b
shares-append style a b = search (rules, flat_map-append)

may_end : (is_closed : Bool) → has_file (cond is_closed Closed Open) ≡ true
may_end true = refl
may_end false = refl

-- what is written of sections grows if the last section goes on, and perhaps ends
pub section_grows : (style : Style) (front : List Section) (begun other : Section) (more : List Section)
    → begun.is_closed ≡ false → begun.is_kept ≡ other.is_kept
    → (rest : List ℕ) × (bytes_of other.lines ≡ bytes_of begun.lines ++ rest)
    → Begins (part_of style (front ++ begun ∷ [])) (part_of style (front ++ other ∷ more))
section_grows style front begun other more is_open kept (rest, bytes) =
    subst (λ those. Begins (part_by (manner_of style) those) (part_of style (front ++ other ∷ more)))
    (search (rules, shares-append, last))
    (rw (← shares-append style front (other ∷ more)) at
    (part_grows (manner_of style) (shares_in style front) (file_in style begun) _
    (shares_wider _ _ (shares_in style more)
    (subst (λ k. SharesBegin (map (share Open) (made_of (opening_of style k) (bytes_of begun.lines)))
    (map (share (state_in other)) (file_in style other))) (sym kept)
    (search (rules, made_begin, may_end)))))) where
      last : shares_in style (begun ∷ []) ≡ map (share Open) (file_in style begun)
      last = search (rules, append-nil)

pub parts_grow : (style : Style) {low high : List Section} → Grow low high
    → Begins (part_of style low) (part_of style high)
parts_grow style grow =
    rw (grow.low_is, grow.high_is, grow.next.are) (section_grows style grow.front grow.begun grow.next.other
    grow.next.more grow.is_open grow.next.kept (bytes_of grow.next.rest, (search (rules, bytes-append))))

pub whole_covers : (total : ℕ) (ending : Ending) → settled_end total ending ≤ whole_end total ending
whole_covers total ending = omega arith

-- The two laws of what is settled: it only grows, and what is written at the end begins with it.
pub grows : (style : Style) (operands : List Operand) (a b : List Line)
    → Begins (settled_of style operands a) (settled_of style operands (a ++ b))
grows style operands a b = parts_grow style (plan_grows style false operands a b _ (omega arith))

pub ends_with : (style : Style) (operands : List Operand) (a b : List Line)
    → Begins (settled_of style operands a) (whole_of style operands (a ++ b))
ends_with style operands a b =
    parts_grow style (plan_grows style true operands a b _ (whole_covers (length (a ++ b)) _))
