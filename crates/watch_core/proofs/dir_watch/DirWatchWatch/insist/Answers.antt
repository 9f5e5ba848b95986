use Rattle.std.proofs.Common.{◌∙◌, ap}
use Rattle.watch_core.{specs.{DirWatchState.{DirWatchState, files_by}, Snapshot.{insisting}}, proofs.DirWatchLemmas.insists_all}
use Rattle.watch_core.proofs.dir_watch.DirWatchWatch.insist.Goals as goal

pub returns-clause-shows : goal.returns-clause-shows
returns-clause-shows g c = insists_all c.self.inside.manner c.self.inside.most
    ∙ ap (λ (watch : DirWatchState). λ n. insisting (files_by watch.manner watch.within)) c.self.view_is
