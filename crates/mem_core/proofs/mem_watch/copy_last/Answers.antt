use Rattle.std.proofs.Common.{◌≡◌, ◌∙◌, ◌+◌, ◌-◌, ◌≤◌, length, arith, IfOk, subst}
use Rattle.mem_core.proofs.MemWatchLemmas.{world_past}
use Rattle.mem_core.proofs.mem_watch.copy_last.Goals as goal

pub returns : goal.returns
returns c = subst (λ last. IfOk c.copy.result (λ world. world ≡ last))
    (c.world_in.ensures ∙ world_past c.args.worlds.now (length c.args.worlds.now - 1) (let some : length c.args.worlds.now ≤ (length c.args.worlds.now - 1) + 1 = omega arith in some)) c.copy.ensures
