use Rattle.std.proofs.Common.{◌+◌, ◌≤◌, arith, ap, ◌∙◌, refl, length}
use Rattle.mem_core.{
  specs.MemWatchState.world_at,
  proofs.MemWatchLemmas.{holds_more, same_again, still_shows, turned},
}
use Rattle.mem_core.proofs.mem_watch.MemWatchWatch.turn.Goals as goal

pub returns-then-turns-len-clause-ok : goal.returns-then-turns-len-clause-ok
returns-then-turns-len-clause-ok c = turned c.self.inside.worlds.items c.self.inside.turns c.self.view_is (λ n. refl) c.in-Some.ensures.1

pub invariant_of-self-then-keep : goal.invariant_of-self-then-keep
invariant_of-self-then-keep c = holds_more _ _ c.self.inside.turns c.in-Some.turns c.self.invariant.0 c.self.invariant.1 (c.if-keep.ensures.kept refl) (let few : c.in-Some.turns ≤ c.self.inside.turns + 1 = omega arith in few)

pub returns-then-keep-clause-ok : goal.returns-then-keep-clause-ok
returns-then-keep-clause-ok c =
    turned c.keep.new.worlds.items c.self.inside.turns c.self.view_is
    (same_again _ (c.in_ok-world.ensures ∙ ap (λ worlds. world_at worlds (length worlds)) c.deref.ensures.value) (c.if-keep.ensures.kept refl)) c.in-Some.ensures.1

pub returns-then-keep-clause-shows : goal.returns-then-keep-clause-shows
returns-then-keep-clause-shows c =
    still_shows (record { worlds = c.keep.new.worlds.items; turns = c.in-Some.turns; watched = c.self.inside.names.items; manner = c.self.inside.manner; within = c.self.inside.within }) c.self.inside.turns refl refl c.self.view_is
    (same_again _ (c.in_ok-world.ensures ∙ ap (λ worlds. world_at worlds (length worlds)) c.deref.ensures.value) (c.if-keep.ensures.kept refl))
