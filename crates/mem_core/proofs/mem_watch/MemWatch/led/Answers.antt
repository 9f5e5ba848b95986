use Rattle.std.proofs.Common.{◌∙◌, ap}
use Rattle.watch_core.{specs.Watched.Watched, proofs.NameLemmas.names_within}
use Rattle.mem_core.{
  specs.{MemWatchState.MemWatchState, inner.Leading.led_at},
  proofs.MemWatchLemmas.led_now,
}
use Rattle.mem_core.proofs.mem_watch.MemWatch.led.Goals as goal

pub returns : goal.returns
returns c = led_now c.self.inside.turns c.self.view_is c.self.invariant.1 c.args.place
    (names_within _ _ c.args.place (ap (λ (those : MemWatchState). those.watched) c.self.view_is) c.requires) c.index.ensures
    (c.led_in.ensures ∙ ap (λ worlds. led_at c.self.inside.manner.leading worlds c.self.inside.turns c.as_str-name.result.now) c.deref.ensures.value
    ∙ ap (led_at c.self.inside.manner.leading c.self.inside.worlds.items c.self.inside.turns)
    (c.as_str-name.ensures.value ∙ ap (λ (those : Watched). those.name) c.behind-self.view_is))
