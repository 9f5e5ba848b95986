use Rattle.std.proofs.Common.{refl}
use Rattle.ports_core.specs.Reason.{reason_of}
use Rattle.watch_core.{
  specs.{declared.watch.Broken.TheVariants.Open, Watched.breaks},
  proofs.DirWatchLemmas.{finds_any, finds_forgiven, insists_now, one_changes, opened_some, opens_there},
}
use Rattle.watch_core.proofs.dir_watch.DirWatchWatch.reopen.Goals as goal

pub returns-in_default-clause-err : goal.returns-in_default-clause-err
returns-in_default-clause-err g c =
    let why : _ = reason_of c.in_default.field-0 in
    let change = breaks why (λ file. Open) in
    (refl, (why, one_changes _ c.args.place change c.self.view_is c.requires c.index_mut-2.ensures.value c.in_default.ensures.broke))

pub returns-clause-ok : goal.returns-clause-ok
returns-clause-ok g c = opened_some _ c.self.view_is c.requires c.index_mut-2.ensures.value c.in-Ok.ensures.opened c.in-Ok.ensures.found
    (finds_any c.args.self.now.manner c.args.self.now.within c.args.self.now.turns _ _ (λ is. opens_there c.open.new.self.opened
    (rw c.in-Ok.is at (c.open.ensures.there (c.insists-insists.ensures (insists_now c.self.view_is is))))))

pub returns-in_default-clause-breaks : goal.returns-in_default-clause-breaks
returns-in_default-clause-breaks g c = c.forgives_at.ensures.no c.if-forgives_at.false

pub returns-then-forgives_at-clause-ok : goal.returns-then-forgives_at-clause-ok
returns-then-forgives_at-clause-ok g c = opened_some _ c.self.view_is c.requires c.index_mut.ensures.value c.open_forgiving.ensures.opened c.open_forgiving.ensures.found
    (finds_forgiven c.args.self.now.within c.args.self.now.turns _ _ (c.forgives_at.ensures.yes c.if-forgives_at.true))
