use Rattle.std.proofs.Common.{◌≡◌, ◌++◌, length}
use Rattle.seg_core.specs.{Line.delimiters, Blocks.{HaveCounts, text_of}}
use Rattle.seg_core.proofs.line_blocks.blocks_of.Given as goal

abbrev pub invariant-loop-left : goal.invariant-loop-left
invariant-loop-left l = record { whole : text_of l.queue.items ++ l.left ≡ l.bytes; counted : l.count ≡ delimiters l.delim l.left; each : HaveCounts l.delim l.queue.items }

abbrev pub decreases-loop-left : goal.decreases-loop-left
decreases-loop-left l = length l.left
