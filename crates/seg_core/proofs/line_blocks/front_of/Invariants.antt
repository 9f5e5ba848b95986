use Rattle.std.proofs.Common.{◌≡◌, drop}
use Rattle.seg_core.specs.Blocks.{text_of}
use Rattle.seg_core.proofs.line_blocks.front_of.Given as goal

abbrev pub invariant-loop-i : goal.invariant-loop-i
invariant-loop-i l = text_of l.queue.items ≡ text_of (drop l.i l.queue.items)
