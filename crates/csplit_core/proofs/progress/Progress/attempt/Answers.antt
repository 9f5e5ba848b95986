use Rattle.std.proofs.{Common.{ap, arith, refl, ◌+◌, ◌*◌}, lemmas.{Bool.Decides.nat_tests, List.drop_all}}
use Rattle.csplit_core.{
  specs.{Output.Style, Plan.{used_up, is_used_up}, laws.PlanLaws.past_near},
  proofs.TryLemmas.{left_is, falls, falls_search, misses_search},
}
use Rattle.csplit_core.proofs.progress.Progress.attempt.Goals as goal

pub returns-in_default-clause-says : goal.returns-in_default-clause-says
returns-in_default-clause-says c lines seen =
    record {
      ending = used_up;
      runs = is_used_up _ (drop_all c.args.self.now.done c.args.operands.now
          (grind (arith, nat_tests, c.in_default.ensures.lookup.0)));
      aims = tt;
    }

pub returns-then-total-search_line-clause-says : goal.returns-then-total-search_line-clause-says
returns-then-total-search_line-clause-says c lines seen =
    misses_search c.args.style.now lines (left_is c.args.operands.now c.args.self.now.done c.in-Some.ensures.lookup.3.0 c.in-Some.ensures.lookup.1) seen c.in-Search.is
    (λ near. absurd (omega (arith, rw (ap (λ (s : Style). s.suppress) c.style.view_is) at (c.search_line.ensures c.args.operands.now))))

pub returns-then-not-found-clause-says : goal.returns-then-not-found-clause-says
returns-then-not-found-clause-says c lines seen =
    misses_search c.args.style.now lines (left_is c.args.operands.now c.args.self.now.done c.in-Some.ensures.lookup.3.0
    c.in-Some.ensures.lookup.1) seen c.in-Search.is (λ near. c.if-not-found.true)

pub returns-in-Number-clause-says : goal.returns-in-Number-clause-says
returns-in-Number-clause-says c lines seen = falls c.args.style.now lines
    (left_is c.args.operands.now c.args.self.now.done c.in-Some.ensures.lookup.3.0 c.in-Some.ensures.lookup.1) seen
    (record { matched = c.args.self.now.matched; line = c.in-Number.number * (c.args.self.now.repetition + 1) }) _
    (rw c.in-Number.is (refl, refl)) (rw c.saturating_mul-line.ensures refl) (rw c.past_last.ensures refl)
    (omega (arith, c.past_last.ensures, past_near c.args.style.now c.in-Some.operand.now.target)) c.requires.current c.fall.result c.fall.ensures

pub returns-else-not-found-clause-says : goal.returns-else-not-found-clause-says
returns-else-not-found-clause-says c lines seen = falls_search c.args.style.now lines
    (left_is c.args.operands.now c.args.self.now.done c.in-Some.ensures.lookup.3.0 c.in-Some.ensures.lookup.1) seen
    c.in-Search.offset _ c.in-Search.is
    (omega (arith, rw (ap (λ (s : Style). s.suppress) c.style.view_is) at (c.search_line.ensures c.args.operands.now))) c.if-not-found.false
    (rw c.line_at-line.ensures refl) (rw c.past_last.ensures refl)
    (omega (arith, c.past_last.ensures, past_near c.args.style.now c.in-Some.operand.now.target)) c.requires.current c.fall-in-Search.result c.fall-in-Search.ensures
