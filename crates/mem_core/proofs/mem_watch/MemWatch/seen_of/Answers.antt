use Rattle.std.proofs.Common.{Some, ◌∙◌, ap, length}
use Rattle.mem_core.{specs.MemWatchState.{world_at}, proofs.MemWatchLemmas.tells_now}
use Rattle.mem_core.proofs.mem_watch.MemWatch.seen_of.Goals as goal

pub returns-in-Some-clause-tells : goal.returns-in-Some-clause-tells
returns-in-Some-clause-tells c = rw c.in-Some.is (ap Some (tells_now c.self.inside.turns c.self.view_is c.self.invariant.1 c.in-Some.file (length c.bytes.result.now)
    (c.world_in.ensures ∙ ap (λ worlds. world_at worlds c.self.inside.turns) c.deref.ensures.value) (ap length c.bytes.ensures)))
