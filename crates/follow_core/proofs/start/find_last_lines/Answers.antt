use Rattle.std.proofs.{Common.{◌≡◌, ◌-◌, arith, length, min, rules}, lemmas.Grind.common_steps}
use Rattle.watch_core.specs.{Snapshot.latest, Watched.{open_contents, watched_at}}
use Rattle.ends_core.proofs.FindLemmas.{all_wanted, begins_in, begins_last, wanted_before}
use Rattle.follow_core.proofs.StartLemmas.{contents_same, block_read, room_kept}
use Rattle.follow_core.proofs.start.find_last_lines.Goals as goal

pub loop-end-init : goal.loop-end-init
loop-end-init g c = grind (arith, common_steps)

pub returns-in-Begins-clause-part : goal.returns-in-Begins-clause-part
returns-in-Begins-clause-part g c visible =
    let contents = open_contents (latest (g.W.Watch.seen c.args.watch.now)) (watched_at (g.W.Watch.watched c.args.watch.now) c.args.place) in
    let long : c.args.len ≡ length contents = c.requires.whole visible in
    let more = c.loop-end-test.true in
    let within = c.loop-end.invariant.within in
    let size : c.min-size.result ≡ min c.loop-end.end (length c.loop-end.buffer) = c.min-size.ensures in
    begins_last contents (omega arith) (begins_in (c.loop-end.end - c.min-size.result) c.min-size.result contents
    (c.loop-end.invariant.lines visible) (omega arith) (omega arith)
    (block_read c.loop-end.buffer c.read_block.new.block
    (c.loop-end.end - c.min-size.result) c.loop-end.end c.min-size.ensures c.in_ok-n.ensures.bound c.read_block.ensures.length
    (contents_same c.args.place c.loop-end.invariant.seen c.loop-end.invariant.watched) (c.in_ok-n.ensures.bytes visible))
    c.in-Begins.ensures)

pub loop-end-preserved : goal.loop-end-preserved
loop-end-preserved g c = search (rules, wanted_before, block_read, contents_same, room_kept)

pub returns-clause-part : goal.returns-clause-part
returns-clause-part g c visible =
    let front = c.loop-end-test.false in
    all_wanted c.args.delim c.loop-end.end (c.loop-end.invariant.lines visible) (omega arith) c.loop-end.invariant.some
