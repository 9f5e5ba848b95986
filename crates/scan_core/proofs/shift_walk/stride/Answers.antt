use Rattle.std.proofs.{Common.{rules, ◌<◌, ◌+◌, ◌%◌, slice_index, refl, ◌∙◌, arith}, lemmas.List.get_or_default}
use Rattle.scan_core.proofs.Shiftings.{at_more, at_moved}
use Rattle.scan_core.proofs.shift_walk.stride.Goals as goal

pub loop-done-init : goal.loop-done-init
loop-done-init c = record { small = omega arith; at = λ before a. at_moved _ (omega arith) (omega arith) a }

pub overflow_add-steps : goal.overflow_add-steps
overflow_add-steps c =
    let l = c.requires.sized.light (c.loop-done.word % 256) (omega arith) in
    let e = c.index.ensures ∙ get_or_default c.args.table.now.weights.items (c.loop-done.word % 256) _ 0 (omega arith) in
    let f : c.loop-done.steps + c.index.result.now < 18446744073709551616 = omega arith in
    search (rules, f)

pub loop-done-preserved : goal.loop-done-preserved
loop-done-preserved c =
    let l = c.requires.sized.light (c.loop-done.word % 256) (omega arith) in
    let e = c.index.ensures ∙ get_or_default c.args.table.now.weights.items (c.loop-done.word % 256) _ 0 (omega arith) in
    let b : slice_index c.args.line.now (c.args.from + c.loop-done.done) < 256 = search (rules, c.type_inv.line) in
    record {
      small = omega arith;
      at = λ before a. at_moved _ (omega arith) (omega arith) (at_more _ (c.loop-done.invariant.at before a) _ _
          (omega arith) b c.index-in-loop-done.ensures refl c.index.ensures);
    }

pub returns-clause-at : goal.returns-clause-at
returns-clause-at c = λ before a. at_moved _ (omega arith) (omega arith) (c.loop-done.invariant.at before a)
