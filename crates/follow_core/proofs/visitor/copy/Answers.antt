use Rattle.std.proofs.{Common.{arith, drop, ◌∙◌, inl, inr}, lemmas.Grind.common_steps}
use Rattle.follow_core.proofs.CallGivesLemmas.{copied_more, copied_none, copies_all, copies_part, copies_short, read_saw}
use Rattle.watch_core.specs.{Snapshot.latest, Watched.watched_at}
use Rattle.follow_core.proofs.visitor.copy.Goals as goal

pub loop-at-init : goal.loop-at-init
loop-at-init g c = grind (arith, common_steps, copied_none)

pub loop-at-preserved : goal.loop-at-preserved
loop-at-preserved g c =
    let l = c.loop-at in record {
      copied = copied_more (drop c.min-room.result l.buffer) c.in-Ok.ensures.bound c.read_at.ensures.length
          (grind (arith, common_steps)) (λ t. rw (l.invariant.seen, l.invariant.watched) at (c.in-Ok.ensures.bytes t))
          (rw (l.invariant.seen, l.invariant.watched) at (c.in-Ok.ensures.found (grind (arith, common_steps))))
          l.invariant.copied c.in-Ok-put.ensures.puts;
      writable = c.in-Ok-put.ensures.writable;
      within = grind (arith, common_steps);
      past = omega arith;
      seen = c.read_at.ensures.seen ∙ l.invariant.seen;
      watched = c.in-Ok.ensures.same ∙ l.invariant.watched;
      shows = c.read_at.ensures.shows ∙ l.invariant.shows;
      room = grind (arith, common_steps);
    }

pub returns-in-Err-clause-copies : goal.returns-in-Err-clause-copies
returns-in-Err-clause-copies g c = let l = c.loop-at in
    copies_part l.at c.loop-at-test.true l.invariant.copied l.invariant.watched c.in-Err.ensures.err.0
    c.in-Err.ensures.err.1 (rw (l.invariant.seen, l.invariant.watched) at c.in-Err.ensures.breaks)

pub returns-in-Err-put-clause-copies : goal.returns-in-Err-put-clause-copies
returns-in-Err-put-clause-copies g c =
    let l = c.loop-at in
    copies_short _ (copied_more (drop c.min-room.result l.buffer) c.in-Ok.ensures.bound c.read_at.ensures.length
    (grind (arith, common_steps)) (λ t. rw (l.invariant.seen, l.invariant.watched) at (c.in-Ok.ensures.bytes t))
    (rw (l.invariant.seen, l.invariant.watched) at (c.in-Ok.ensures.found (grind (arith, common_steps))))
    l.invariant.copied c.in-Err-put.ensures.puts) (c.in-Ok.ensures.same ∙ l.invariant.watched)

pub returns-clause-copies : goal.returns-clause-copies
returns-clause-copies g c = let l = c.loop-at in let past = c.loop-at-test.false in
    copies_all l.at l.invariant.copied (inl (omega arith)) l.invariant.watched

pub returns-in-Ok-eq0-clause-copies : goal.returns-in-Ok-eq0-clause-copies
returns-in-Ok-eq0-clause-copies g c =
    let l = c.loop-at in
    copies_all l.at l.invariant.copied (inr (rw c.in-Ok-eq0.field-0-test at
    (read_saw (latest (g.W.Watch.seen c.args.watch.now)) (watched_at (g.W.Watch.watched c.args.watch.now) c.args.place)
    c.in-Ok-eq0.ensures.bound c.read_at.ensures.length (grind (arith, common_steps))
    (λ t. rw (l.invariant.seen, l.invariant.watched) at (c.in-Ok-eq0.ensures.bytes t))
    (rw (l.invariant.seen, l.invariant.watched) at (c.in-Ok-eq0.ensures.found (grind (arith, common_steps)))))))
    (c.in-Ok-eq0.ensures.same ∙ l.invariant.watched)
