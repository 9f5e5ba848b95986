use Rattle.std.proofs.Common.{◌≡◌, ◌≤◌, ◌^◌, ◌++◌, map, length}
use Rattle.watch_core.specs.Watched.{added}
use Rattle.follow_core.specs.{inner.Giving.IsFront, Standing.texts}
use Rattle.follow_core.proofs.name.add_all.Given as goal

abbrev pub invariant-loop-left : goal.invariant-loop-left
invariant-loop-left g l = record {
  watched : g.W.Watch.watched l.watch ++ map added (texts l.left)
      ≡ g.W.Watch.watched l.fn.watch ++ map added (texts l.names);
  kept : IsFront (g.W.Watch.watched l.fn.watch) (g.W.Watch.watched l.watch);
  first : l.first ≡ length (g.W.Watch.watched l.fn.watch);
  fits : length (g.W.Watch.watched l.watch) ≤ 2 ^ 64;
  seen : g.W.Watch.seen l.watch ≡ g.W.Watch.seen l.fn.watch;
  shows : g.W.Watch.shows l.watch ≡ g.W.Watch.shows l.fn.watch;
}

abbrev pub decreases-loop-left : goal.decreases-loop-left
decreases-loop-left g l = length l.left
