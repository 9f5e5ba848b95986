use Rattle.std.proofs.{lemmas.{Grind.common_steps, List.Elements.All-push}, Common.arith}
use Rattle.seg_core.proofs.{Delimiters.delimiters-le-length, BlockLemmas.{text_push, split_counted}}
use Rattle.seg_core.proofs.line_blocks.blocks_of.Goals as goal

pub count_first-near_count-requires : goal.count_first-near_count-requires
count_first-near_count-requires c = grind (arith, common_steps, split_counted)

pub holding-requires : goal.holding-requires
holding-requires c = omega (arith, delimiters-le-length c.args.delim c.split_at.result.0.now)

pub overflow_sub-count : goal.overflow_sub-count
overflow_sub-count c =
    omega (arith, split_counted c.args.delim c.split_at.result.0.now c.split_at.result.1.now c.loop-left.invariant.counted c.split_at.ensures.by_index.0)

pub loop-left-preserved : goal.loop-left-preserved
loop-left-preserved c = grind (arith, common_steps, text_push, split_counted, All-push)
