use Rattle.std.proofs.{lemmas.{Grind.common_steps, List.length-map}, Common.{◌∙◌, arith, rules}}
use Rattle.ports_core.proofs.HandedOn.{handed_on}
use Rattle.run_core.proofs.{
  InputLemmas.{walk_begins, walk_streams, walked_at, walk_goes_on, walk_stops, walk_ends, untouched_on, none_left},
  InputLemmas.{count_more, next_streams},
}
use Rattle.run_core.proofs.inputs.take_names.Goals as goal

pub loop-left-init : goal.loop-left-init
loop-left-init g c = grind (arith, common_steps, walk_begins, none_left)

pub take_name-requires-clause-outputs : goal.take_name-requires-clause-outputs
take_name-requires-clause-outputs g c = search (rules, walk_streams, length-map)

pub loop-left-preserved : goal.loop-left-preserved
loop-left-preserved g c =
    let walked = walked_at _ _ c.loop-left.left.now c.in-len1-up.len_at_least c.loop-left.invariant.walked in
    let leaves = rw c.loop-left.invariant.room at c.take_name.ensures.takes in
    let room = c.loop-left.invariant.room in record {
      walked = walk_goes_on walked room leaves c.in_ok-progress.ensures.opens c.in_ok-progress.ensures.laid
          (c.in_ok-progress.ensures.took (next_streams walked room leaves));
      untouched = untouched_on _ c.loop-left.left.now _ c.in-len1-up.len_at_least c.loop-left.invariant.untouched c.take_name.ensures.takes.unasked;
      room = c.take_name.auto.buffer ∙ c.loop-left.invariant.room;
    }

pub returns-in_err-progress : goal.returns-in_err-progress
returns-in_err-progress g c =
    let walked = walked_at _ _ c.loop-left.left.now c.in-len1-up.len_at_least c.loop-left.invariant.walked in
    let leaves = rw c.loop-left.invariant.room at c.take_name.ensures.takes in
    let room = c.loop-left.invariant.room in record {
      took = rw (handed_on _ _ c.from_residual.ensures.1) (walk_stops walked room leaves c.in_err-progress.field-0.0
          (c.in_err-progress.ensures.took (next_streams walked room leaves)));
      opened = grind (arith, common_steps, count_more);
      asked = leaves.asked walked.asked;
      untouched = (untouched_on _ c.loop-left.left.now (g.I.Inputs.sources c.take_name.new.inputs) c.in-len1-up.len_at_least c.loop-left.invariant.untouched c.take_name.ensures.takes.unasked).same;
    }

pub returns : goal.returns
returns g c = record {
  took = walk_ends c.loop-left.invariant.walked (none_left c.loop-left.left.now c.in_default.len_below);
  opened = let none = none_left c.loop-left.left.now c.in_default.len_below in let walked = c.loop-left.invariant.walked in grind (arith, common_steps);
  asked = c.loop-left.invariant.walked.asked;
  untouched = c.loop-left.invariant.untouched.same;
}
