use Rattle.tee_core.{proofs.ChangeLemmas.InTurn, specs.Outputs.Closes}
use Rattle.tee_core.proofs.tee.Tee.close_files.Given as goal

abbrev pub invariant-loop-n : goal.invariant-loop-n
invariant-loop-n g l = InTurn Closes l.fn.self.first l.n (g.O.Outs.slots l.fn.outs) (g.O.Outs.slots l.outs) l.broke
