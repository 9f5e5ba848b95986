use Rattle.std.proofs.{
  lemmas.{Bool.false≢true, List.length-map},
  Common.{sym, ◌≡◌, ◌+◌, ◌-◌, ◌∙◌, ◌∷◌, [], ap, refl, arith, length, length-append},
}
use Rattle.follow_core.proofs.LookedLemmas.{ended, most_made, one_more, until_last, until_more, most_more}
use Rattle.follow_core.proofs.run.make_looks.Goals as goal

pub loop-made-init : goal.loop-made-init
loop-made-init g c = record {
  within = omega arith;
  count = ap length c.requires.unseen;
  left = λ t. let all : c.args.limits.looks - 0 ≡ c.args.limits.looks = omega arith in rw all (omega arith);
  can = c.requires.can;
  print = c.requires.print;
  shows = refl;
  progress = λ asked holds. record {
    looks = [];
    count = refl;
    observed = c.requires.unseen;
    is_made = record { saw = refl; alive = λ t n above below. absurd (omega arith) };
    alive = λ t above. absurd (omega arith);
    ends = λ over. absurd (false≢true (sym over));
    holds = holds;
  };
}

pub returns-in-Err-clause-ends : goal.returns-in-Err-clause-ends
returns-in-Err-clause-ends g c =
    let l = c.loop-made in
    let below = c.loop-made-test.true in
    let (most, are, above) = most_more {process = c.args.limits.process} l.invariant.left below in (
      most,
      are,
      (λ asked holds.
          let p = rw (← c.has_ended-is_last.ensures.watched, ← c.has_ended-is_last.ensures.seen, ← c.is_unread.ensures.read c.if-is_unread.false) at
          (l.invariant.progress asked holds) in
          let shows = c.has_ended-is_last.ensures.shows ∙ l.invariant.shows in record {
            looks = p.looks;
            saw = rw (shows, p.observed, length-map) at c.in-Err.ensures.saw;
            made = p.is_made;
            within = rw p.count (omega arith);
            alive = p.alive;
            halted = rw (shows, p.observed, length-map) at (c.in-Err.ensures.stopped asked p.looks p.holds);
          }),
    )

pub returns-then-not-alive-clause-ends : goal.returns-then-not-alive-clause-ends
returns-then-not-alive-clause-ends g c =
    let l = c.loop-made in
    let below = c.loop-made-test.true in
    let (most, are, above) = most_more {process = c.args.limits.process} l.invariant.left below in (
      most,
      are,
      (λ asked holds. ended above (λ fewer. (omega arith, c.if-not-alive.true))
          (one_more (c.has_ended-is_last.ensures.shows ∙ l.invariant.shows)
          (rw (← c.has_ended-is_last.ensures.watched, ← c.has_ended-is_last.ensures.seen, ← c.is_unread.ensures.read c.if-is_unread.false) at
          (l.invariant.progress asked holds)) c.in_default.ensures.looked c.in_default.ensures.seen
          c.alive.ensures.alive c.alive.ensures.none)),
    )

pub returns-then-is_last-clause-ends : goal.returns-then-is_last-clause-ends
returns-then-is_last-clause-ends g c =
    let l = c.loop-made in
    let are = until_last {process = c.args.limits.process} l.invariant.left c.loop-made-test.true c.has_ended-is_last.ensures.found
    c.if-is_last.true l.invariant.shows l.invariant.count in (
      l.made + 1,
      are,
      (λ asked holds. ended (omega arith) (λ fewer. absurd (omega arith))
          (rw c.if-not-alive.false at (one_more (c.has_ended-is_last.ensures.shows ∙ l.invariant.shows)
          (rw (← c.has_ended-is_last.ensures.watched, ← c.has_ended-is_last.ensures.seen, ← c.is_unread.ensures.read c.if-is_unread.false) at
          (l.invariant.progress asked holds)) c.in_default.ensures.looked c.in_default.ensures.seen
          c.alive.ensures.alive c.alive.ensures.none))),
    )

pub loop-made-preserved : goal.loop-made-preserved
loop-made-preserved g c =
    let l = c.loop-made in
    record {
      within = let below = c.loop-made-test.true in omega arith;
      count = let one = length-append (g.W.Watch.seen c.has_ended-is_last.new.watch)
          (g.W.Watch.shows c.has_ended-is_last.new.watch (length (g.W.Watch.seen c.has_ended-is_last.new.watch)) ∷ []) in
          let before = ap length c.has_ended-is_last.ensures.seen in let count = l.invariant.count in ap length c.in_default.ensures.seen
          ∙ omega arith;
      left = λ t. until_more c.args.limits.process (l.invariant.left t) c.loop-made-test.true
          (c.has_ended-is_last.ensures.told t) c.if-is_last.false l.invariant.shows l.invariant.count;
      can = c.in_default.ensures.can;
      print = (rw c.in_default.ensures.phase at c.in_default.ensures.can).1;
      shows = c.look.ensures.shows ∙ c.has_ended-is_last.ensures.shows ∙ l.invariant.shows;
      progress = λ asked holds. rw c.if-not-alive.false at
          (one_more (c.has_ended-is_last.ensures.shows ∙ l.invariant.shows)
          (rw (← c.has_ended-is_last.ensures.watched, ← c.has_ended-is_last.ensures.seen, ← c.is_unread.ensures.read c.if-is_unread.false) at
          (l.invariant.progress asked holds)) c.in_default.ensures.looked c.in_default.ensures.seen
          c.alive.ensures.alive c.alive.ensures.none);
    }

pub returns-clause-ends : goal.returns-clause-ends
returns-clause-ends g c =
    let l = c.loop-made in
    let past = c.loop-made-test.false in
    let within = l.invariant.within in
    let (most, are, above) = most_made g.W.Watch.visible c.args.limits.process (g.W.Watch.shows c.args.watch.now) c.args.limits.looks l.made within
    (λ t. let is = l.invariant.left t in omega arith) in
    let most_within = are.within in (
      most,
      are,
      (λ asked holds. ended above (λ fewer. absurd (omega arith))
          (l.invariant.progress asked holds)),
    )

pub returns-then-is_unread-clause-ends : goal.returns-then-is_unread-clause-ends
returns-then-is_unread-clause-ends g c =
    let l = c.loop-made in
    let below = c.loop-made-test.true in
    let (most, are, above) = most_more {process = c.args.limits.process} l.invariant.left below in (
      most,
      are,
      (λ asked holds. let p = l.invariant.progress asked holds in record {
        looks = p.looks;
        observed = p.observed;
        made = p.is_made;
        fewer = rw p.count (omega arith);
        alive = p.alive;
        before = g.O.Outs.slots l.outs;
        broke = (c.is_unread.ensures.unread c.if-is_unread.true).1;
        holds = p.holds;
      }),
    )
