use Rattle.std.proofs.{Common.{refl, ap, arith}, lemmas.Grind.common_steps}
use Rattle.csplit_core.{
  specs.Cutter.CutterState,
  proofs.{
    LineLemmas.rest_all,
    TryLemmas.{few_counted, first_at, one_more, more_clear, left_whole, all_passed_at, next_found, stops_unfound},
  },
}
use Rattle.csplit_core.proofs.line_cutter.LineCutter.pass_unmatched.Goals as goal

pub loop-end-init : goal.loop-end-init
loop-end-init c = more_clear (grind (arith, common_steps)) c.pass_clear-clear.ensures (rest_all c.pass_clear-clear.result c.args.text.now)

pub overflow_sub-result : goal.overflow_sub-result
overflow_sub-result c = grind (arith, common_steps)

pub overflow_add-result : goal.overflow_add-result
overflow_add-result c = grind (arith, common_steps)

pub returns-then-is_match : goal.returns-then-is_match
returns-then-is_match c = record {
  over = all_passed_at c.requires.sound c.requires.near c.requires.aim c.loop-end.invariant c.is_match.ensures.same;
  found = next_found c.in-Some.end c.requires.aim c.loop-end.invariant c.is_match.ensures.same
      (first_at c.in-Some.end c.in-Some.ensures) c.is_match.ensures.found c.if-is_match.true;
}

pub returns : goal.returns
returns c = stops_unfound c.unfound.result (all_passed_at c.requires.sound c.requires.near c.requires.aim c.loop-end.invariant refl) c.unfound.ensures.size c.unfound.ensures.found

pub overflow_add-self : goal.overflow_add-self
overflow_add-self c = omega (arith, few_counted c.loop-end.invariant)

pub overflow_add-self-in-Some : goal.overflow_add-self-in-Some
overflow_add-self-in-Some c = omega (arith, few_counted c.loop-end.invariant, ap (λ (cutter : CutterState). cutter.lines) c.is_match.ensures.same)

pub pass_clear-clear-requires-in-Some : goal.pass_clear-clear-requires-in-Some
pass_clear-clear-requires-in-Some c =
    let so = one_more c.in-Some.end c.loop-end.invariant c.is_match.ensures.same
    (first_at c.in-Some.end c.in-Some.ensures) c.is_match.ensures.found c.if-is_match.false in
    record { whole = left_whole c.requires.whole so; fits = (omega (arith, few_counted so)) }

pub overflow_add-left : goal.overflow_add-left
overflow_add-left c = grind (arith, common_steps)

pub loop-end-preserved : goal.loop-end-preserved
loop-end-preserved c =
    more_clear (one_more c.in-Some.end c.loop-end.invariant c.is_match.ensures.same
    (first_at c.in-Some.end c.in-Some.ensures) c.is_match.ensures.found c.if-is_match.false)
    c.pass_clear-clear-in-Some.ensures (rest_all c.pass_clear-clear-in-Some.result _)
