use Rattle.std.proofs.Common.{◌≡◌, ◌≤◌, ◌+◌, ◌-◌, true, [], length}
use Rattle.follow_core.{
  specs.{Ending.until_over, Sharing.CanPrint, FollowState.{Asked, CanLook, Holds, point}},
  proofs.LookedLemmas.Progress,
}
use Rattle.follow_core.proofs.run.make_looks.Given as goal

abbrev pub invariant-loop-made : goal.invariant-loop-made
invariant-loop-made g l = record {
  within : l.made ≤ l.limits.looks;
  count : length (g.W.Watch.seen l.watch) ≡ l.made;
  left : g.W.Watch.visible ≡ true → until_over l.limits.process (g.W.Watch.shows l.fn.watch) 0 l.limits.looks
      ≡ l.made + until_over l.limits.process (g.W.Watch.shows l.fn.watch) l.made (l.limits.looks - l.made);
  can : CanLook l.follow (g.W.Watch.watched l.watch) (g.O.Outs.slots l.outs);
  print : CanPrint (g.O.Outs.slots l.outs);
  shows : g.W.Watch.shows l.watch ≡ g.W.Watch.shows l.fn.watch;
  progress : (asked : Asked)
      → Holds g.W.Watch.visible g.O.Outs.visible asked []
      (point l.fn.follow (g.W.Watch.watched l.fn.watch) (g.O.Outs.slots l.fn.outs))
      → Progress g.W.Watch.visible g.O.Outs.visible asked (g.W.Watch.shows l.fn.watch) l.made true
      (point l.follow (g.W.Watch.watched l.watch) (g.O.Outs.slots l.outs)) (g.W.Watch.seen l.watch);
}

abbrev pub decreases-loop-made : goal.decreases-loop-made
decreases-loop-made g l = l.limits.looks - l.made
