use Rattle.std.proofs.Common.{ap, sym, ◌∙◌}
use Rattle.mem_core.{specs.MemWatchState.{MemWatchState, world_at}, proofs.MemWatchLemmas.opened_now}
use Rattle.watch_core.{specs.Watched.Watched, proofs.NameLemmas.{names_within, readable_watchable}}
use Rattle.mem_core.proofs.mem_watch.MemWatch.open_bytes.Goals as goal

pub returns-in-Some : goal.returns-in-Some
returns-in-Some c =
    c.bytes.ensures ∙ opened_now c.self.inside.turns c.self.view_is
    c.self.invariant.1 c.args.place
    (names_within _ _ c.args.place (ap (λ (those : MemWatchState). those.watched) c.self.view_is) (readable_watchable _ c.args.place c.requires)) c.index.ensures
    (c.world_in.ensures ∙ ap (λ worlds. world_at worlds c.self.inside.turns) c.deref.ensures.value)
    (sym (ap (λ (those : Watched). those.opened) c.behind-self.view_is) ∙ c.in-Some.is)
