use Rattle.std.{proofs.Common.{◌≡◌, ◌+◌, length}, specs.Simd.Lanes.{Each1, sum_l}}
use Rattle.seg_core.{specs.Line.delimiters, proofs.Lanes.IsFew}
use Rattle.seg_core.proofs.line.count_in_run.Given as goal

abbrev pub invariant-loop-left : goal.invariant-loop-left
invariant-loop-left l = record {
  counted : sum_l l.lanes + delimiters l.delim l.left ≡ delimiters l.delim l.run;
  few : Each1 (IsFew (length l.left)) l.lanes;
}

abbrev pub decreases-loop-left : goal.decreases-loop-left
decreases-loop-left l = length l.left
