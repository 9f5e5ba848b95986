use Rattle.std.proofs.Common.{false, true, refl, sym, ◌∙◌, ap, get_or}
use Rattle.watch_core.{specs.{Edits.is_barred_in, Watched.Watched}, proofs.NameLemmas.names_within}
use Rattle.mem_core.{specs.MemWatchState.{MemWatchState, world_at}, proofs.MemWatchLemmas.missing_now}
use Rattle.mem_core.proofs.mem_watch.MemWatchWatch.reason.Goals as goal

pub returns-then-is_barred-clause-missing : goal.returns-then-is_barred-clause-missing
returns-then-is_barred-clause-missing c visible can =
    missing_now c.self.inside.turns c.self.view_is c.self.invariant.1 c.args.place {item = c.in-Some.name.now} true
    (names_within _ _ c.args.place (ap (λ (those : MemWatchState). those.watched) c.self.view_is) can)
    (c.in-Some.ensures.lookup.1 ∙ ap (λ those. get_or those c.args.place c.in-Some.name.now) c.deref.ensures.value)
    (c.world_in.ensures ∙ ap (λ worlds. world_at worlds c.self.inside.turns) c.deref-2.ensures.value)
    (sym c.if-is_barred.true ∙ c.is_barred.ensures ∙ ap (is_barred_in c.world_in.result.now.bars)
    (c.as_str.ensures.value ∙ ap (λ (those : Watched). those.name) c.name.view_is)) refl

pub returns-clause-missing : goal.returns-clause-missing
returns-clause-missing c visible can =
    missing_now c.self.inside.turns c.self.view_is c.self.invariant.1 c.args.place {item = c.in-Some.name.now} false
    (names_within _ _ c.args.place (ap (λ (those : MemWatchState). those.watched) c.self.view_is) can)
    (c.in-Some.ensures.lookup.1 ∙ ap (λ those. get_or those c.args.place c.in-Some.name.now) c.deref.ensures.value)
    (c.world_in.ensures ∙ ap (λ worlds. world_at worlds c.self.inside.turns) c.deref-2.ensures.value)
    (sym c.if-is_barred.false ∙ c.is_barred.ensures ∙ ap (is_barred_in c.world_in.result.now.bars)
    (c.as_str.ensures.value ∙ ap (λ (those : Watched). those.name) c.name.view_is)) refl
