use Rattle.std.proofs.Common.{true}
use Rattle.watch_core.specs.Snapshot.{insisting}
use Rattle.mem_core.proofs.MemWatchLemmas.{insists_all, none_seen, shows_now}
use Rattle.mem_core.proofs.mem_watch.MemWatchWatch.insist.Goals as goal

pub returns-clause-shows : goal.returns-clause-shows
returns-clause-shows c = shows_now (record { leading = c.self.inside.manner.leading; insists = true; why = c.self.inside.manner.why })
    (λ shown n. insisting (shown n)) c.self.view_is (insists_all c.self.inside.manner c.self.inside.within c.self.inside.worlds.items)

pub returns-clause-seen : goal.returns-clause-seen
returns-clause-seen c = none_seen c.self.inside.turns (record { leading = c.self.inside.manner.leading; insists = true; why = c.self.inside.manner.why }) c.self.view_is c.requires
