use Rattle.std.proofs.Common.{◌≡◌, ◌-◌, ◌<◌, ◌≤◌, length, true}
use Rattle.watch_core.specs.{Snapshot.latest, Watched.{open_contents, watched_at}}
use Rattle.ends_core.proofs.FindLemmas.{IsWanted}
use Rattle.follow_core.proofs.start.find_last_lines.Given as goal

abbrev pub invariant-loop-end : goal.invariant-loop-end
invariant-loop-end g l = let contents = open_contents (latest (g.W.Watch.seen l.fn.watch))
    (watched_at (g.W.Watch.watched l.fn.watch) l.fn.place) in record {
      lines : g.W.Watch.visible ≡ true → IsWanted l.delim l.fn.count l.wanted l.end contents;
      some : 0 < l.wanted;
      within : l.end ≤ l.len - 1;
      seen : g.W.Watch.seen l.watch ≡ g.W.Watch.seen l.fn.watch;
      watched : g.W.Watch.watched l.watch ≡ g.W.Watch.watched l.fn.watch;
      shows : g.W.Watch.shows l.watch ≡ g.W.Watch.shows l.fn.watch;
      room : 0 < length l.buffer;
    }

abbrev pub decreases-loop-end : goal.decreases-loop-end
decreases-loop-end g l = l.end
