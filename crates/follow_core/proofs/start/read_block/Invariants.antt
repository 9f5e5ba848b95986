use Rattle.std.proofs.Common.{length, ◌-◌, ◌≡◌}
use Rattle.watch_core.specs.{Snapshot.latest, Watched.{open_contents, watched_at}}
use Rattle.follow_core.proofs.StartLemmas.{Filling}
use Rattle.follow_core.proofs.start.read_block.Given as goal

abbrev pub invariant-loop-filled : goal.invariant-loop-filled
invariant-loop-filled g l = record {
  filling : Filling g.W.Watch.visible
      (open_contents (latest (g.W.Watch.seen l.fn.watch))
      (watched_at (g.W.Watch.watched l.fn.watch) l.fn.place)) l.fn.from l.filled
      l.fn.block l.block (g.W.Watch.seen l.fn.watch) (g.W.Watch.seen l.watch)
      (g.W.Watch.watched l.fn.watch) (g.W.Watch.watched l.watch);
  shows : g.W.Watch.shows l.watch ≡ g.W.Watch.shows l.fn.watch;
}

abbrev pub decreases-loop-filled : goal.decreases-loop-filled
decreases-loop-filled g l = length l.initial.block - l.filled
