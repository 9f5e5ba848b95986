use Rattle.tee_core.proofs.ChangeLemmas.{next_in_turn, none_in_turn, still_broken}
use Rattle.tee_core.proofs.tee.Tee.write_files.Goals as goal

pub loop-n-init : goal.loop-n-init
loop-n-init g c = none_in_turn

pub loop-n-preserved : goal.loop-n-preserved
loop-n-preserved g c = next_in_turn _ _ _ _ _ _ _ (still_broken _) c.loop-n.invariant (rw (← c.self.view_is) c.write_piece-broke.ensures.turned) c.write_piece-broke.ensures.few
