use Rattle.std.proofs.Common.{refl}
use Rattle.ports_core.specs.Reason.{reason_of}
use Rattle.watch_core.{
  specs.{declared.watch.Broken.TheVariants.Look, Watched.breaks},
  proofs.DirWatchLemmas.{finds_any, finds_forgiven, forgives_now, insists_now, leads_there, one_changes, unforgiven},
}
use Rattle.watch_core.proofs.dir_watch.DirWatchWatch.look.Goals as goal

pub returns-in_default-clause-err : goal.returns-in_default-clause-err
returns-in_default-clause-err g c =
    let why : _ = reason_of c.in_default.field-0 in
    let change = breaks why (λ file. Look) in
    (refl, (why, one_changes _ c.args.place change c.self.view_is c.requires c.index_mut-2.ensures.value c.in_default.ensures.broke))

pub returns-clause-found : goal.returns-clause-found
returns-clause-found g c = finds_any c.args.self.now.manner c.args.self.now.within c.args.self.now.turns _ _ (λ is. leads_there c.in-Ok.found
    (rw c.in-Ok.is at (c.look.ensures.there (c.insists-insists.ensures (insists_now c.self.view_is is)))))

pub returns-in_default-clause-breaks : goal.returns-in_default-clause-breaks
returns-in_default-clause-breaks g c = unforgiven _ c.self.view_is c.forgives.ensures.must c.if-forgives.false

pub returns-then-forgives-clause-found : goal.returns-then-forgives-clause-found
returns-then-forgives-clause-found g c = finds_forgiven c.args.self.now.within c.args.self.now.turns _ _ (forgives_now c.self.view_is (c.forgives.ensures.yes c.if-forgives.true))
