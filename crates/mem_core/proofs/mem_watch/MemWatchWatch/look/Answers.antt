use Rattle.std.proofs.Common.{◌∙◌, ap, sym, is_some}
use Rattle.mem_core.proofs.MemWatchLemmas.{finds_any, leads_there, may_break}
use Rattle.mem_core.proofs.mem_watch.MemWatchWatch.look.Goals as goal

pub returns-clause-ok : goal.returns-clause-ok
returns-clause-ok c visible = rw c.led.ensures at c.seen_of-found.ensures.tells

pub returns-clause-found : goal.returns-clause-found
returns-clause-found c = finds_any c.args.self.now.manner c.args.self.now.within c.args.self.now.worlds c.args.self.now.turns _ _
    (λ insists. leads_there c.seen_of-found.result (sym c.is_some.ensures ∙ c.refusal.ensures.there (ap is_some c.in_default.is) insists))

pub returns-in-Some-clause-breaks : goal.returns-in-Some-clause-breaks
returns-in-Some-clause-breaks c = may_break c.args.self.now _ (c.refusal.ensures.fails (ap is_some c.in-Some.is))
