use Rattle.std.proofs.Common.{◌∙◌}
use Rattle.ports_core.proofs.SlotLemmas.{with_written-nil}
use Rattle.port_tests.proofs.dir_tests.write_many.Goals as goal

pub loop-number-preserved : goal.loop-number-preserved
loop-number-preserved c = c.in_ok-write_whole.ensures.whole ∙ with_written-nil _ _ ∙ c.loop-number.invariant
