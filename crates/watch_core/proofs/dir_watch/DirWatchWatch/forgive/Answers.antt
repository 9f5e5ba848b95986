use Rattle.std.proofs.Common.{◌∙◌, ap}
use Rattle.watch_core.{specs.{DirWatchState.{DirWatchState, files_by}, Snapshot.{forgiving}}, proofs.DirWatchLemmas.forgives_all}
use Rattle.watch_core.proofs.dir_watch.DirWatchWatch.forgive.Goals as goal

pub returns-clause-shows : goal.returns-clause-shows
returns-clause-shows g c = forgives_all c.self.inside.manner c.self.inside.most
    ∙ ap (λ (watch : DirWatchState). λ n. forgiving (files_by watch.manner watch.within)) c.self.view_is
