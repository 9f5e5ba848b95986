use Rattle.std.proofs.Common.{refl, arith}
use Rattle.mem_core.proofs.MemWatchLemmas.{holds_more}
use Rattle.mem_core.proofs.mem_watch.MemWatch.then.Goals as goal

pub invariant_of-self : goal.invariant_of-self
invariant_of-self c = holds_more _ _ c.self.inside.turns c.self.inside.turns c.self.invariant.0 c.self.invariant.1 (c.if-keep.ensures.kept refl) (omega arith)
