use Rattle.std.proofs.{
  Common.{◌∙◌, length, sym, ap, arith, rules},
  lemmas.{List.{take_rest, length-drop}, Simd.sum-zip2},
}
use Rattle.seg_core.{
  specs.{declared.line.TheConstants.STEP, Line.delimiters},
  proofs.{Delimiters.{delimiters-take-drop, delimiters-le-length}, Lanes.{more_fit, more_few}},
}
use Rattle.seg_core.proofs.line.count_in_run.Goals as goal

pub overflow_add-lanes : goal.overflow_add-lanes
overflow_add-lanes c = search (rules, more_fit)

pub loop-left-preserved : goal.loop-left-preserved
loop-left-preserved c =
    let left = c.loop-left.left.now in
    let lanes = c.loop-left.lanes in
    let step = c.delimiters_in_step-lanes.result in
    let added = sum-zip2 lanes step (c.loop-left.auto.lanes.0 ∙ sym c.delimiters_in_step-lanes.ensures.long) in
    let split = delimiters-take-drop c.args.delim STEP left in
    let rest = ap (delimiters c.args.delim) (take_rest left STEP) in
    let shorter = ap length (take_rest left STEP) ∙ length-drop STEP left in
    record {
      counted = omega arith;
      few = rw shorter (more_few lanes step (length left) c.loop-left-test.true c.loop-left.invariant.few c.delimiters_in_step-lanes.ensures.each);
    }

pub overflow_add-result : goal.overflow_add-result
overflow_add-result c = record { fits = omega (arith, delimiters-le-length c.args.delim c.args.run.now) }
