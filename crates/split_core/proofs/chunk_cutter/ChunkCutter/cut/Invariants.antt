use Rattle.std.proofs.Common.{length, take}
use Rattle.split_core.{specs.inner.Cutter.seen_cutter, proofs.CutterLemmas.CutsAway}
use Rattle.split_core.proofs.chunk_cutter.ChunkCutter.cut.Given as goal

abbrev pub invariant-stretches : goal.invariant-stretches
invariant-stretches g l = CutsAway g.O.Outs.visible (seen_cutter l.fn.self) l.fn.size (take l.own l.text) l.left
    (g.O.Outs.slots l.fn.outs) (g.O.Outs.slots l.outs) (seen_cutter l.self)

abbrev pub decreases-stretches : goal.decreases-stretches
decreases-stretches g l = length l.left
