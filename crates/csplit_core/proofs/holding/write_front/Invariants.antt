use Rattle.engine_core.specs.FileWriter.{seen_writer}
use Rattle.csplit_core.proofs.CutterLemmas.{Emptying}
use Rattle.csplit_core.proofs.holding.write_front.Given as goal

abbrev pub invariant-loop-left : goal.invariant-loop-left
invariant-loop-left g l = Emptying g.O.Outs.visible (seen_writer l.fn.writer) (seen_writer l.writer) l.fn.window l.window l.n l.left (g.O.Outs.slots l.fn.outs) (g.O.Outs.slots l.outs)

abbrev pub decreases-loop-left : goal.decreases-loop-left
decreases-loop-left g l = l.left
