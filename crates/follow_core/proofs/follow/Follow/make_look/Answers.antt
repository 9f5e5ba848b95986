use Rattle.std.proofs.{Common.{sym, ◌∙◌, arith}, lemmas.{List.with_items_is, Grind.common_steps}}
use Rattle.follow_core.proofs.LookedLemmas.{makes_all, makes_few, makes_look}
use Rattle.watch_core.proofs.NameLemmas.{latest-last}
use Rattle.follow_core.proofs.follow.Follow.make_look.Goals as goal

pub returns-in-Err-clause-makes : goal.returns-in-Err-clause-makes
returns-in-Err-clause-makes g c = makes_few c.requires.live c.requires.can c.in-Err.ensures.err.0 c.begin.ensures.seen
    c.in-Err.ensures.err.1 c.in-Err.ensures.err.2

pub returns-in-Err-turn-clause-makes : goal.returns-in-Err-turn-clause-makes
returns-in-Err-turn-clause-makes g c = makes_all c.requires.live c.requires.can c.in-Err-turn.ensures.err.0
    (c.in-Err-turn.ensures.err.1 ∙ c.begin.ensures.seen) c.in_default.ensures.begins c.turn.ensures.watched

pub invariant_of-self : goal.invariant_of-self
invariant_of-self g c = grind (arith, common_steps)

pub returns-clause-makes : goal.returns-clause-makes
returns-clause-makes g c =
    let names = sym (with_items_is c.self.inside.names c.visit_all.new.names (c.visit_all.auto.names ∙ c.deref_mut.ensures.len)) in
    makes_look c.requires.live c.requires.can (rw c.self.view_is c.in_default.ensures.begins) _
    (c.visit_all.ensures.seen ∙ rw (c.begin.ensures.shows, c.begin.ensures.seen) at c.in_default-turn.ensures.ok)
    (rw (
      c.in_default-turn.ensures.ok,
      latest-last,
      c.begin.ensures.shows,
      c.begin.ensures.seen,
      c.turn.ensures.watched,
      c.deref_mut.ensures.value,
      names,
    ) at c.visit_all.ensures.visits)
