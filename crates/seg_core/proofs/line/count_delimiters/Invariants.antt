use Rattle.std.proofs.Common.{◌≡◌, ◌+◌, length}
use Rattle.seg_core.specs.Line.{delimiters}
use Rattle.seg_core.proofs.line.count_delimiters.Given as goal

abbrev pub invariant-loop-left : goal.invariant-loop-left
invariant-loop-left l = l.count + delimiters l.delim l.left ≡ delimiters l.delim l.bytes

abbrev pub decreases-loop-left : goal.decreases-loop-left
decreases-loop-left l = length l.left
