use Rattle.std.proofs.Common.{rules, ◌<◌, ◌*◌, ◌+◌, arith}
use Rattle.scan_core.proofs.Shiftings.{word_fits, word_more}
use Rattle.scan_core.proofs.shift_table.word_of.Goals as goal

pub overflow_mul-word : goal.overflow_mul-word
overflow_mul-word c =
    let f = word_fits c.loop-done.invariant (omega arith) in
    search (rules, f)

pub overflow_add-word : goal.overflow_add-word
overflow_add-word c =
    let f = word_fits c.loop-done.invariant (omega arith) in
    let g : c.loop-done.word * 64 + c.offset_of.result < 18446744073709551616 = omega arith in
    search (rules, g)

pub loop-done-preserved : goal.loop-done-preserved
loop-done-preserved c = word_more c.loop-done.invariant (omega arith) c.offset_of.ensures.small c.offset_of.ensures.exact
