use Rattle.std.proofs.Common.{◌-◌}
use Rattle.split_core.{specs.inner.Cutter.seen_cutter, proofs.CutterLemmas.Ending}
use Rattle.split_core.proofs.chunk_cutter.ChunkCutter.end_all.Given as goal

abbrev pub invariant-places : goal.invariant-places
invariant-places g l = Ending g.O.Outs.visible (seen_cutter l.fn.self) l.fn.size (g.O.Outs.slots l.fn.outs) (g.O.Outs.slots l.outs) (seen_cutter l.self)

abbrev pub decreases-places : goal.decreases-places
decreases-places g l = l.self.chunks.count - l.self.sink.place
