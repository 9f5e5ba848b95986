use Rattle.std.proofs.{lemmas.Grind.common_steps, Common.{◌-◌, arith}}
use Rattle.watch_core.specs.{Snapshot.latest, Watched.{open_contents, watched_at}}
use Rattle.follow_core.proofs.StartLemmas.{contents_same, block_read, passed_by, passed_in, room_kept}
use Rattle.follow_core.proofs.start.pass_lines.Goals as goal

pub returns-in-Ends-clause-part : goal.returns-in-Ends-clause-part
returns-in-Ends-clause-part g c visible =
    let contents = open_contents (latest (g.W.Watch.seen c.args.watch.now)) (watched_at (g.W.Watch.watched c.args.watch.now) c.args.place) in
    passed_in c.loop-at.at c.min-size.result contents
    (block_read c.loop-at.buffer c.read_block.new.block c.loop-at.at
    (c.args.len - c.loop-at.at) c.min-size.ensures c.in_ok-n.ensures.bound c.read_block.ensures.length
    (contents_same c.args.place c.loop-at.invariant.seen c.loop-at.invariant.watched) (c.in_ok-n.ensures.bytes visible))
    c.in-Ends.ensures (c.loop-at.invariant.lines visible)

pub loop-at-preserved : goal.loop-at-preserved
loop-at-preserved g c = grind (arith, common_steps, passed_by, block_read, contents_same, room_kept)
