use Rattle.std.proofs.Common.{◌∙◌}
use Rattle.scan_core.proofs.Enterings.{each_more}
use Rattle.scan_core.proofs.build.states_of.Goals as goal

pub loop-state-preserved : goal.loop-state-preserved
loop-state-preserved c = record {
  size = c.state_of-noted.ensures.size ∙ c.loop-state.invariant.size;
  so_far = each_more c.loop-state.invariant.so_far c.state_of-noted.ensures.noted c.in_ok-push.ensures.items;
}
