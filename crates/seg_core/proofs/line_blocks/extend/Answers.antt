use Rattle.std.proofs.{Common.arith, lemmas.Grind.common_steps}
use Rattle.seg_core.proofs.{Delimiters.delimiters-le-length, BlockLemmas.{extended, split_counted}}
use Rattle.seg_core.proofs.line_blocks.extend.Goals as goal

pub count_first-near_count-requires : goal.count_first-near_count-requires
count_first-near_count-requires c = grind (arith, common_steps, split_counted)

pub overflow_sub-count : goal.overflow_sub-count
overflow_sub-count c =
    omega (arith, split_counted c.args.delim c.split_at.result.0.now c.split_at.result.1.now c.requires.counted c.split_at.ensures.by_index.0)

pub blocks_of-requires : goal.blocks_of-requires
blocks_of-requires c = grind (arith, common_steps, split_counted)

pub fill-requires-clause-few : goal.fill-requires-clause-few
fill-requires-clause-few c = omega (arith, delimiters-le-length c.args.delim c.split_at.result.0.now)

pub returns-clause-ok : goal.returns-clause-ok
returns-clause-ok c = grind (arith, common_steps, extended)

pub returns-clause-each : goal.returns-clause-each
returns-clause-each c = grind (arith, common_steps)
