use Rattle.std.proofs.Common.{ap, ◌∙◌}
use Rattle.mem_core.specs.MemWatchState.{MemWatchState}
use Rattle.ports_core.specs.Slot.{changed_at}
use Rattle.watch_core.{specs.Watched.breaks, proofs.NameLemmas.{name_changes, names_within}}
use Rattle.mem_core.proofs.mem_watch.MemWatch.break_off.Goals as goal

pub returns : goal.returns
returns c =
    let names = ap (λ (those : MemWatchState). those.watched) c.self.view_is in
    ap (λ watched. record { worlds = c.self.inside.worlds.items; turns = c.self.inside.turns; watched = watched; manner = c.self.inside.manner; within = c.self.inside.within })
    (name_changes _ _ c.args.place (breaks c.self.inside.manner.why (λ file. c.args.how)) _ _ names
    (names_within _ _ c.args.place names c.requires) c.index_mut.ensures.value c.break_off.ensures)
    ∙ ap (λ (those : MemWatchState). record those {
      watched = changed_at c.args.place (breaks those.manner.why (λ file. c.args.how)) c.args.self.now.watched;
    }) c.self.view_is
