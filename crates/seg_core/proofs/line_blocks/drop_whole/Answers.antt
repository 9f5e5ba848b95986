use Rattle.std.proofs.{lemmas.Grind.common_steps, Common.{◌<◌, length, refl, arith}}
use Rattle.seg_core.proofs.BlockLemmas.{gone_fits, first_goes}
use Rattle.seg_core.proofs.line_blocks.drop_whole.Goals as goal

pub overflow_add-left : goal.overflow_add-left
overflow_add-left c =
    let items = c.loop-first.queue.items in
    let some : 0 < length items = let v = c.in-Some.ensures.variant.0 refl in omega arith in
    omega (arith, gone_fits some c.in-Some.ensures.lookup c.loop-first.invariant)

pub loop-first-preserved-else-left-len : goal.loop-first-preserved-else-left-len
loop-first-preserved-else-left-len c = grind (arith, common_steps, first_goes)
