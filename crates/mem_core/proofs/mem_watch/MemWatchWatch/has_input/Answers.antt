use Rattle.std.proofs.Common.{◌≡◌, ◌-◌, ◌∙◌, ap, arith, length, min}
use Rattle.mem_core.{specs.MemWatchState.{world_at}, proofs.MemWatchLemmas.fed_now}
use Rattle.mem_core.proofs.mem_watch.MemWatchWatch.has_input.Goals as goal

pub returns : goal.returns
returns c = fed_now c.self.view_is (omega (arith, c.self.invariant.0))
    (c.min-first.ensures ∙ ap (λ n. min 1 (n - 1)) (let long : c.len.result ≡ length c.self.inside.worlds.items = omega arith in long))
    (c.world_in.ensures ∙ ap (λ worlds. world_at worlds c.min-first.result) c.deref.ensures.value)
    c.file_of-file.ensures c.is_some.ensures
