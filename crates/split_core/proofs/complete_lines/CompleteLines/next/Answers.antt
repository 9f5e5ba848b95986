use Rattle.std.proofs.Common.{refl, arith}
use Rattle.split_core.proofs.DealLemmas.{first_line, none_seen, seen_at, sees_rest}
use Rattle.split_core.proofs.complete_lines.CompleteLines.next.Goals as goal

pub returns-then-ahead-eq0-clause-none : goal.returns-then-ahead-eq0-clause-none
returns-then-ahead-eq0-clause-none c = rw (← c.self.view_is) (none_seen c.find-ahead.ensures.sees c.if-ahead-eq0.true
    (c.find-ahead.ensures.found c.if-ahead-eq0.true))

pub split_at-requires : goal.split_at-requires
split_at-requires c = let first = (seen_at c.find-ahead.ensures.sees c.if-ahead-eq0.false).0 in omega arith

pub overflow_sub-self : goal.overflow_sub-self
overflow_sub-self c = omega (arith, (seen_at c.find-ahead.ensures.sees c.if-ahead-eq0.false).1)

pub invariant_of-self : goal.invariant_of-self
invariant_of-self c = rw c.split_at.ensures.back
    (sees_rest _ c.find-ahead.ensures.sees (seen_at c.find-ahead.ensures.sees c.if-ahead-eq0.false).1 refl)

pub returns-clause-some : goal.returns-clause-some
returns-clause-some c = rw (← c.self.view_is, c.split_at.ensures.front, c.split_at.ensures.back)
    (first_line (seen_at c.find-ahead.ensures.sees c.if-ahead-eq0.false).0)
