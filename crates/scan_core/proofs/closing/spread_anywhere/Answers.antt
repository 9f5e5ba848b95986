use Rattle.scan_core.proofs.{Closings.spreads_end, Insides.adds_both}
use Rattle.scan_core.proofs.closing.spread_anywhere.Goals as goal

pub passes-preserved : goal.passes-preserved
passes-preserved c = let s = c.passes.invariant in let f = c.follow_all-over.ensures in
    record { adds = adds_both s.adds f.closer.adds; apart = f.closer.apart; done = f.done }

pub returns : goal.returns
returns c = spreads_end c.passes.invariant c.passes-test.false c.requires.closures c.land.ensures c.deref.ensures.value c.deref-2.ensures.value c.requires.begun
