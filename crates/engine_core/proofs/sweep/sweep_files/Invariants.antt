use Rattle.engine_core.proofs.SweepLemmas.{Sweeping}
use Rattle.engine_core.proofs.sweep.sweep_files.Given as goal

abbrev pub invariant-loop-place : goal.invariant-loop-place
invariant-loop-place g l = Sweeping l.fn.files l.files l.place l.left (g.O.Outs.slots l.fn.outs) (g.O.Outs.slots l.outs)
