use Rattle.std.proofs.Common.{◌≡◌, ◌+◌, ◌-◌, ◌<◌, ◌≤◌, ℕ, List, length}
use Rattle.follow_core.specs.{
  inner.{Giving.{moment, sight}, Visits.{StandFrom, VisitedTo}},
  Sharing.CanPrint,
  Look.{Look, ways_of},
  FollowState.AllReady,
  Standing.texts,
}
use Rattle.watch_core.specs.Watched.{watched_at}
use Rattle.follow_core.proofs.name.visit_all.Given as goal

abbrev pub invariant-loop-place : goal.invariant-loop-place
invariant-loop-place g l = record {
  within : l.place ≤ length l.names;
  same : texts l.names ≡ texts l.fn.names;
  ready : AllReady l.names l.fn.first (g.W.Watch.watched l.watch);
  visited : (from : ℕ) (looks : List Look)
      → StandFrom g.W.Watch.visible (ways_of l.fn.by_name l.fn.start from) looks l.fn.first l.fn.names
      (g.W.Watch.watched l.fn.watch)
      → VisitedTo (sight g.W.Watch.visible g.O.Outs.visible (g.W.Watch.seen l.fn.watch))
      (ways_of l.fn.by_name l.fn.start from) looks l.place l.names
      (moment (g.W.Watch.watched l.fn.watch) l.fn.visitor (g.O.Outs.slots l.fn.outs))
      (moment (g.W.Watch.watched l.watch) l.visitor (g.O.Outs.slots l.outs)) l.has_failed;
  count : length (g.W.Watch.watched l.watch) ≡ length (g.W.Watch.watched l.fn.watch);
  others : (number : ℕ) → ((place : ℕ) → place < length l.fn.names → number ≡ l.fn.first + place → ⊥)
      → watched_at (g.W.Watch.watched l.watch) number ≡ watched_at (g.W.Watch.watched l.fn.watch) number;
  can : CanPrint (g.O.Outs.slots l.outs);
  seen : g.W.Watch.seen l.watch ≡ g.W.Watch.seen l.fn.watch;
  shows : g.W.Watch.shows l.watch ≡ g.W.Watch.shows l.fn.watch;
}

abbrev pub decreases-loop-place : goal.decreases-loop-place
decreases-loop-place g l = length l.names - l.place
