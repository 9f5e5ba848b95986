use Rattle.std.proofs.Common.{false}
use Rattle.watch_core.specs.Snapshot.{forgiving}
use Rattle.mem_core.specs.{inner.Leading.forgiven}
use Rattle.mem_core.proofs.MemWatchLemmas.{forgives_all, none_seen, shows_now}
use Rattle.mem_core.proofs.mem_watch.MemWatchWatch.forgive.Goals as goal

pub returns-clause-shows : goal.returns-clause-shows
returns-clause-shows c = rw c.forgiven.ensures (shows_now (record { leading = forgiven c.self.inside.manner.leading; insists = false; why = c.self.inside.manner.why })
    (λ shown n. forgiving (shown n)) c.self.view_is (forgives_all c.self.inside.manner c.self.inside.within c.self.inside.worlds.items))

pub returns-clause-seen : goal.returns-clause-seen
returns-clause-seen c = none_seen c.self.inside.turns (record { leading = c.forgiven.result; insists = false; why = c.self.inside.manner.why }) c.self.view_is c.requires
