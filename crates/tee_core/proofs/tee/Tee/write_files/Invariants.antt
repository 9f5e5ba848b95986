use Rattle.tee_core.{proofs.ChangeLemmas.InTurn, specs.Outputs.Gets}
use Rattle.tee_core.proofs.tee.Tee.write_files.Given as goal

abbrev pub invariant-loop-n : goal.invariant-loop-n
invariant-loop-n g l = InTurn (Gets g.O.Outs.visible l.fn.piece) l.fn.self.first l.n (g.O.Outs.slots l.fn.outs) (g.O.Outs.slots l.outs) l.broke
