use Rattle.std.proofs.Common.{◌∙◌, ap, sym, is_some}
use Rattle.mem_core.{specs.MemWatchState.MemWatchState, proofs.MemWatchLemmas.{may_break, reopens_now}}
use Rattle.watch_core.proofs.NameLemmas.{names_within}
use Rattle.mem_core.proofs.mem_watch.MemWatchWatch.reopen.Goals as goal

pub returns-clause-ok : goal.returns-clause-ok
returns-clause-ok c =
    let is = c.self.view_is ∙ c.refusal.ensures.same in
    let within = names_within _ _ c.args.place (ap (λ (those : MemWatchState). those.watched) is) c.requires in
    reopens_now c.self.inside.turns is c.self.invariant.1 c.args.place within c.index_mut.ensures.value c.led-file.ensures
    c.open.ensures.opened c.open.ensures.found
    (λ insists. sym c.is_some.ensures ∙ c.refusal.ensures.there (ap is_some c.in_default.is) insists)

pub returns-in-Some-clause-breaks : goal.returns-in-Some-clause-breaks
returns-in-Some-clause-breaks c = may_break c.args.self.now _ (c.refusal.ensures.fails (ap is_some c.in-Some.is))
