use Rattle.std.proofs.{lemmas.Grind.common_steps, Common.{arith, subst, sym}}
use Rattle.watch_core.specs.Watched.{watched_at}
use Rattle.follow_core.{proofs.LookGivesLemmas.{left_visited, looks_short, looks_through}, specs.Standing.CanVisit}
use Rattle.follow_core.proofs.name.Name.visit.Goals as goal

pub returns-in-New-clause-visits : goal.returns-in-New-clause-visits
returns-in-New-clause-visits g c first = rw (← c.self.view_is, c.in-New.is, ← c.as_str-text.ensures.value) (c.first.ensures.visits first)

pub returns-in-Ok-clause-visits : goal.returns-in-Ok-clause-visits
returns-in-Ok-clause-visits g c first =
    let known = watched_at (g.W.Watch.watched c.args.watch.now) c.args.place in
    let can = rw c.in-Followed.is at (subst (λ one. CanVisit one known) (sym c.self.view_is) c.requires.ready) in
    let text = c.as_str-text-in-Followed.ensures.value in
    rw (← c.self.view_is, c.in-Followed.is, ← text) (looks_through (rw (← text) at can) c.in-Ok.ensures.looks)

pub returns-in-Err-clause-visits : goal.returns-in-Err-clause-visits
returns-in-Err-clause-visits g c first =
    let known = watched_at (g.W.Watch.watched c.args.watch.now) c.args.place in
    let can = rw c.in-Followed.is at (subst (λ one. CanVisit one known) (sym c.self.view_is) c.requires.ready) in
    let text = c.as_str-text-in-Followed.ensures.value in
    rw (← c.self.view_is, c.in-Followed.is, ← text)
    (looks_short (rw (← text) at can) c.in-Err.ensures.looks c.reason.ensures.broke c.stop.ensures.tells)

pub returns-in-Left-clause-visits : goal.returns-in-Left-clause-visits
returns-in-Left-clause-visits g c first = rw (← c.self.view_is, c.in-Left.is) (grind (arith, common_steps, left_visited))
