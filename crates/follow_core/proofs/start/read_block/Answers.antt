use Rattle.std.proofs.Common.{◌∙◌, ◌+◌, ◌-◌, ap, length, take, drop, subst}
use Rattle.watch_core.specs.{
  Snapshot.latest,
  Watched.{open_contents, watched_at, GaveFrom, breaks},
  declared.watch.Broken.TheVariants.Read,
}
use Rattle.ports_core.specs.Slot.{changed_at}
use Rattle.follow_core.proofs.StartLemmas.{contents_same, fill_ends, fill_more}
use Rattle.follow_core.proofs.start.read_block.Goals as goal

pub returns-in-Ok-eq0-clause-bytes : goal.returns-in-Ok-eq0-clause-bytes
returns-in-Ok-eq0-clause-bytes g c =
    let f = c.loop-filled.invariant.filling in
    let now_contents = open_contents (latest (g.W.Watch.seen c.loop-filled.watch))
    (watched_at (g.W.Watch.watched c.loop-filled.watch) c.args.place) in
    let part = take (length c.loop-filled.block - c.loop-filled.filled) (drop c.loop-filled.filled c.loop-filled.block) in
    fill_ends f
    (contents_same c.args.place f.seen_same f.watched_same)
    c.loop-filled-test.true
    (λ visible. subst (λ n. GaveFrom now_contents (c.args.from + c.loop-filled.filled) part c.read_at.new.buffer n) c.in-Ok-eq0.field-0-test
    (c.in-Ok-eq0.ensures.bytes visible))

pub loop-filled-preserved : goal.loop-filled-preserved
loop-filled-preserved g c =
    let f = c.loop-filled.invariant.filling in
    record {
      filling = fill_more f
          (contents_same c.args.place f.seen_same f.watched_same)
          c.loop-filled-test.true c.loop-filled.auto.block c.read_at.ensures.length c.in-Ok.ensures.bound c.in-Ok.ensures.bytes
          c.in-Ok.ensures.seen c.in-Ok.ensures.same;
      shows = c.read_at.ensures.shows ∙ c.loop-filled.invariant.shows;
    }

pub returns-in-Err-clause-err : goal.returns-in-Err-clause-err
returns-in-Err-clause-err g c =
    let l = c.loop-filled in
    let at = c.args.from + l.filled in
    let (is_read, (why, is)) = c.in-Err.ensures.err in
    let broke = changed_at c.args.place (breaks why (λ file. Read file at)) in
    (is_read, (at, (why, is ∙ ap broke l.invariant.filling.watched_same)))
