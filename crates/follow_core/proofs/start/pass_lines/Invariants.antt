use Rattle.std.proofs.Common.{◌≡◌, ◌-◌, ◌<◌, drop, length, true}
use Rattle.seg_core.specs.Line.{after_lines}
use Rattle.watch_core.specs.{Snapshot.latest, Watched.{open_contents, watched_at}}
use Rattle.follow_core.proofs.start.pass_lines.Given as goal

abbrev pub invariant-loop-at : goal.invariant-loop-at
invariant-loop-at g l = let contents = open_contents (latest (g.W.Watch.seen l.fn.watch))
    (watched_at (g.W.Watch.watched l.fn.watch) l.fn.place) in record {
      lines : g.W.Watch.visible ≡ true
          → after_lines l.delim l.fn.count contents ≡ after_lines l.delim l.left (drop l.at contents);
      seen : g.W.Watch.seen l.watch ≡ g.W.Watch.seen l.fn.watch;
      watched : g.W.Watch.watched l.watch ≡ g.W.Watch.watched l.fn.watch;
      shows : g.W.Watch.shows l.watch ≡ g.W.Watch.shows l.fn.watch;
      room : 0 < length l.buffer;
    }

abbrev pub decreases-loop-at : goal.decreases-loop-at
decreases-loop-at g l = l.len - l.at
