use Rattle.std.{proofs.Common.{◌≡◌, ◌+◌, ◌-◌, ◌∙◌, ap, arith, min}, specs.Prelude.length}
use Rattle.mem_core.{specs.MemWatchState.{seen, shows, world_at}, proofs.MemWatchLemmas.gone_next}
use Rattle.mem_core.proofs.mem_watch.MemWatchWatch.is_gone.Goals as goal

is_gone : (g : goal.After-has_ended)
    → g.has_ended.result ≡ (shows g.args.self.now (length (seen g.args.self.now))).lacks g.args.process
is_gone c = gone_next c.args.process c.self.view_is c.self.invariant.0
    (c.min-next.ensures ∙ ap (λ n. min (c.self.inside.turns + 1) (n - 1)) (let long : c.len.result ≡ length c.self.inside.worlds.items = omega arith in long))
    (c.world_in.ensures ∙ ap (λ worlds. world_at worlds c.min-next.result) c.deref.ensures.value) c.has_ended.ensures

pub returns-clause-told : goal.returns-clause-told
returns-clause-told c visible = is_gone c

pub returns-clause-found : goal.returns-clause-found
returns-clause-found c gone = rw (is_gone c) at gone
