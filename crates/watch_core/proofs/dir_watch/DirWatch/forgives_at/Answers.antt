use Rattle.watch_core.proofs.DirWatchLemmas.{forgives_now, unforgiven, zero_breaks}
use Rattle.watch_core.proofs.dir_watch.DirWatch.forgives_at.Goals as goal

pub returns-then-forgives-clause-no : goal.returns-then-forgives-clause-no
returns-then-forgives-clause-no g c =
    zero_breaks _ c.args.place c.self.view_is c.requires c.index.ensures c.has_zero.ensures

pub returns-then-forgives-clause-yes : goal.returns-then-forgives-clause-yes
returns-then-forgives-clause-yes g c = λ other. forgives_now c.self.view_is (c.forgives.ensures.yes c.if-forgives.true)

pub returns-else-forgives-clause-no : goal.returns-else-forgives-clause-no
returns-else-forgives-clause-no g c = λ none. unforgiven _ c.self.view_is c.forgives.ensures.must none
