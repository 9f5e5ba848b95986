-- The last section and the lines that wait are all lines that are left.
use Rattle.std.proofs.{
  Common.{rules, ℕ, suc, ◌≤◌, Bool, true, false, arith, ◌≡◌, ◌-◌, List, length, drop, refl, sym, ◌+◌, [], ◌∷◌, ◌++◌},
  Common.{map, ◌∙◌, ap, append_assoc, append-nil, take-append-drop, drop-drop},
  lemmas.Grind.common_steps,
}
use Rattle.operand_core.specs.Style.{Style}
use Rattle.csplit_core.specs.{
  Plan.{line_after, Ending, State, Plan, Runs, cuts},
  Operand.{Operand, Line},
  Planned.plan,
  Section.{Section, section, section_of, lines_between, is_last_kept, whole_end, whole_sections, is_final, lines_in},
  laws.{PlanLaws.plan_runs, SectionLaws.are_within},
}

-- the current line is at most one past the cut
pub after_within : (suppress : Bool) (cut total : ℕ) → cut ≤ total → line_after suppress cut ≤ suc total
after_within suppress cut total within = search rules

-- Few lines wait.

-- No line is lost.

lines_in-append : (a b : List Section) → lines_in (a ++ b) ≡ lines_in a ++ lines_in b
lines_in-append [] b = refl
lines_in-append (one ∷ a) b = search (rules, append_assoc, lines_in-append a b)

-- the lines before a cut, and the lines from the cut on
pub between_rest : (first cut : ℕ) (lines : List Line) → 1 ≤ first → first ≤ cut
    → lines_between first cut lines ++ drop (cut - 1) lines ≡ drop (first - 1) lines
between_rest first cut lines some least =
    ap (λ those. lines_between first cut lines ++ those)
    (ap (λ n. drop n lines) (let e : cut - 1 ≡ first - 1 + (cut - first) = omega arith in e) ∙ sym
    (drop-drop (cut - first) (first - 1) lines))
    ∙ take-append-drop (cut - first) (drop (first - 1) lines)

steps_and_rest : {style : Style} {lines : List Line} {first : State} {plan : Plan} → Runs style lines first plan
    → style.suppress ≡ false → 1 ≤ first.current
    → lines_in (map (section_of lines) plan.steps) ++ drop (plan.last.current - 1) lines
    ≡ drop (first.current - 1) lines
steps_and_rest (cuts state cut its from within plan rest) whole some =
    search (rules, append_assoc, between_rest, whole, steps_and_rest rest whole)
steps_and_rest run whole some = refl

-- the steps' sections, the lines `end`, and the lines `rest` are all lines, if the last two are what is left
pub all_with : (style : Style) → style.suppress ≡ false
    → (closed : Bool) (operands : List Operand) {x : List Line} (end rest : List Line)
    → end ++ rest ≡ drop ((plan style operands x).last.current - 1) x
    → lines_in (map (section_of x) (plan style operands x).steps
    ++ section (is_last_kept (plan style operands x).ending) closed end ∷ []) ++ rest ≡ x
all_with style whole closed operands {x} end rest is =
    ap (λ those. those ++ rest) (search (rules, lines_in-append, append-nil))
    ∙ append_assoc _ end rest
    ∙ ap (λ those. lines_in (map (section_of x) (plan style operands x).steps) ++ those) is ∙ steps_and_rest (plan_runs style operands x) whole (omega arith)

pub ends_after_all : (total : ℕ) (ending : Ending) → is_final ending ≡ false → whole_end total ending ≡ suc total
ends_after_all total ending live = search rules

pub rest_is_all : (x : List Line) (current : ℕ) → 1 ≤ current
    → lines_between current (suc (length x)) x ≡ drop (current - 1) x
rest_is_all x current some = grind (arith, common_steps)

pub none_lost_at_end : (style : Style) → style.suppress ≡ false → (operands : List Operand) (x : List Line)
    → is_final (plan style operands x).ending ≡ false
    → lines_in (whole_sections x (plan style operands x)) ≡ x
none_lost_at_end style whole operands x live =
    let plan' = plan style operands x in
    let some = (are_within (plan_runs style operands x) (omega arith)).1 in
    sym (search (rules, append-nil)) ∙ all_with style whole true operands (lines_between plan'.last.current (whole_end (length x) plan'.ending) x) []
    (search (rules, append-nil, ends_after_all, rest_is_all))
