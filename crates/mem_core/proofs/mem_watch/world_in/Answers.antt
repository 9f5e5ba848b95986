use Rattle.std.proofs.Common.{sym, ◌∙◌}
use Rattle.mem_core.proofs.MemWatchLemmas.{world_there}
use Rattle.mem_core.proofs.mem_watch.world_in.Goals as goal

pub returns : goal.returns
returns c = c.index-worlds-n.is ∙ sym (world_there c.args.worlds.now c.args.n c.index-worlds-n.result c.requires)
