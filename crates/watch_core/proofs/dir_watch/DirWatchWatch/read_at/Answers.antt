use Rattle.std.proofs.Common.{refl}
use Rattle.ports_core.specs.Reason.{reason_of}
use Rattle.watch_core.{
  specs.{declared.watch.Broken.TheVariants.Read, Watched.breaks},
  proofs.{DirWatchLemmas.{finds_any, one_changes, unforgiven}, NameLemmas.readable_watchable},
}
use Rattle.watch_core.proofs.dir_watch.DirWatchWatch.read_at.Goals as goal

pub returns-in_default-clause-err : goal.returns-in_default-clause-err
returns-in_default-clause-err g c =
    let why : _ = reason_of c.in_default.field-0 in
    let change = breaks why (λ file. Read file c.args.from) in
    let can = readable_watchable _ c.args.place c.requires in
    (refl, (why, one_changes _ c.args.place change c.self.view_is can c.index_mut-2.ensures.value c.in_default.ensures.broke))

pub returns-clause-found : goal.returns-clause-found
returns-clause-found g c = λ some. finds_any c.args.self.now.manner c.args.self.now.within c.args.self.now.turns _ _ (λ is. refl)

pub returns-in_default-clause-breaks : goal.returns-in_default-clause-breaks
returns-in_default-clause-breaks g c = unforgiven _ c.self.view_is c.forgives_reads.ensures.must c.if-forgives_reads.false

pub returns-then-forgives_reads-clause-found : goal.returns-then-forgives_reads-clause-found
returns-then-forgives_reads-clause-found g c = λ some. finds_any c.args.self.now.manner c.args.self.now.within c.args.self.now.turns _ _ (λ is. refl)
