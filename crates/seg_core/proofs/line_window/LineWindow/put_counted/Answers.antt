use Rattle.std.proofs.{lemmas.Grind.common_steps, Common.{arith, rules}}
use Rattle.seg_core.proofs.{Delimiters.delimiters-le-length, BlockLemmas.counted_put}
use Rattle.seg_core.proofs.line_window.LineWindow.put_counted.Goals as goal

pub overflow_add-self-2 : goal.overflow_add-self-2
overflow_add-self-2 c = grind (arith, common_steps, delimiters-le-length)

pub invariant_of-self-2 : goal.invariant_of-self-2
invariant_of-self-2 c = search (rules, counted_put)
