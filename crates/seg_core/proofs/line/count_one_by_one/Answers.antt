use Rattle.std.proofs.Common.{arith, ◌∙◌}
use Rattle.seg_core.proofs.{
  Delimiters.{count_yes, count_no},
  line.count_one_by_one.Goals.{then-byte-delim, else-byte-delim},
}
use Rattle.seg_core.proofs.line.count_one_by_one.Goals as goal

pub loop-byte-preserved : goal.loop-byte-preserved
loop-byte-preserved c = elim c.if-byte-delim.branch [
  | then-byte-delim w ↦ record { counted = w.count-is ∙ count_yes c.args.bytes.now c.loop-byte.byte-index c.loop-byte.invariant.counted c.loop-byte-test.true w.if-byte-delim.true; few = omega arith }
  | else-byte-delim w ↦ record { counted = w.count-is ∙ count_no c.args.delim c.args.bytes.now c.loop-byte.byte-index c.loop-byte.invariant.counted c.loop-byte-test.true w.if-byte-delim.false; few = omega arith }
]
