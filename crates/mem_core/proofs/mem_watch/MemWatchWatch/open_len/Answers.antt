use Rattle.std.proofs.Common.{inl, refl}
use Rattle.mem_core.proofs.MemWatchLemmas.{finds_any, may_break}
use Rattle.watch_core.{specs.declared.watch.Broken.TheVariants.Len, proofs.NameLemmas.broke_so}
use Rattle.mem_core.proofs.mem_watch.MemWatchWatch.open_len.Goals as goal

pub returns-then-fails-clause-err : goal.returns-then-fails-clause-err
returns-then-fails-clause-err c =
    let broke = broke_so c.fails.new.self.manner.why _ c.args.place Len c.open_id.ensures in
    (refl, (c.fails.new.self.manner.why, rw (c.break_off.ensures, broke, c.fails.ensures.same) refl))

pub returns-clause-found : goal.returns-clause-found
returns-clause-found c = finds_any c.args.self.now.manner c.args.self.now.within c.args.self.now.worlds c.args.self.now.turns _ _ (λ is. refl)

pub returns-then-fails-clause-breaks : goal.returns-then-fails-clause-breaks
returns-then-fails-clause-breaks c = may_break c.args.self.now _ (inl (c.fails.ensures.can c.if-fails.true))
