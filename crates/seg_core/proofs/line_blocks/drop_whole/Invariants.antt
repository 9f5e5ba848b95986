use Rattle.std.proofs.Common.{length}
use Rattle.seg_core.specs.inner.Blocks.{Gone}
use Rattle.seg_core.proofs.line_blocks.drop_whole.Given as goal

abbrev pub invariant-loop-first : goal.invariant-loop-first
invariant-loop-first l = Gone l.n l.fn.queue.items l.queue.items l.left.bytes l.left.delimiters

abbrev pub decreases-loop-first : goal.decreases-loop-first
decreases-loop-first l = length l.queue.items
