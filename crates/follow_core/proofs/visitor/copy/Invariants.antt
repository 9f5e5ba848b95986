use Rattle.std.proofs.Common.{◌≡◌, ◌-◌, ◌<◌, ◌≤◌, IsTrue, None, length}
use Rattle.watch_core.specs.Watched.{watched_at}
use Rattle.ports_core.specs.Slot.{is_writable}
use Rattle.follow_core.{proofs.CallGivesLemmas.Copied, specs.inner.Giving.{moment, sight}}
use Rattle.follow_core.proofs.visitor.copy.Given as goal

abbrev pub invariant-loop-at : goal.invariant-loop-at
invariant-loop-at g l = record {
  copied : Copied (sight g.W.Watch.visible g.O.Outs.visible (g.W.Watch.seen l.fn.watch))
      (watched_at (g.W.Watch.watched l.fn.watch) l.fn.place) l.fn.from l.fn.name
      (moment (g.W.Watch.watched l.fn.watch) l.fn.printer (g.O.Outs.slots l.fn.outs))
      (moment (g.W.Watch.watched l.watch) l.printer (g.O.Outs.slots l.outs)) l.at None;
  writable : IsTrue (is_writable (g.O.Outs.slots l.outs) 0);
  within : l.at ≤ l.fn.len;
  past : l.fn.from ≤ l.at;
  seen : g.W.Watch.seen l.watch ≡ g.W.Watch.seen l.fn.watch;
  watched : g.W.Watch.watched l.watch ≡ g.W.Watch.watched l.fn.watch;
  shows : g.W.Watch.shows l.watch ≡ g.W.Watch.shows l.fn.watch;
  room : 0 < length l.buffer;
}

abbrev pub decreases-loop-at : goal.decreases-loop-at
decreases-loop-at g l = l.len - l.at
