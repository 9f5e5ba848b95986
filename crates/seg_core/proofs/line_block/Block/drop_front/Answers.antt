use Rattle.std.proofs.{lemmas.Grind.common_steps, Common.{arith, rules, length-drop}}
use Rattle.seg_core.proofs.{Delimiters.delimiters-le-length, BlockLemmas.{part_counted, split_counted}}
use Rattle.seg_core.proofs.line_block.Block.drop_front.Goals as goal

pub count_first-gone-requires : goal.count_first-gone-requires
count_first-gone-requires c = search (rules, split_counted)

pub overflow_sub-self : goal.overflow_sub-self
overflow_sub-self c = grind (arith, common_steps, part_counted)

pub invariant_of-self : goal.invariant_of-self
invariant_of-self c = grind (arith, common_steps, part_counted, delimiters-le-length, length-drop)
