use Rattle.std.proofs.Common.{false}
use Rattle.watch_core.specs.Snapshot.{clinging}
use Rattle.mem_core.{
  specs.declared.mem_watch.Leading.TheVariants.Clinging,
  proofs.MemWatchLemmas.{clings_all, none_seen, shows_now},
}
use Rattle.mem_core.proofs.mem_watch.MemWatchWatch.cling.Goals as goal

pub returns-clause-shows : goal.returns-clause-shows
returns-clause-shows c = shows_now (record { leading = Clinging; insists = false; why = c.self.inside.manner.why })
    clinging c.self.view_is (clings_all c.self.inside.manner c.self.inside.within c.self.inside.worlds.items)

pub returns-clause-seen : goal.returns-clause-seen
returns-clause-seen c = none_seen c.self.inside.turns (record { leading = Clinging; insists = false; why = c.self.inside.manner.why }) c.self.view_is c.requires
