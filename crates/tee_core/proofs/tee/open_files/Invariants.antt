use Rattle.std.proofs.Common.{length, map}
use Rattle.tee_core.proofs.StartLemmas.{Opening}
use Rattle.tee_core.proofs.tee.open_files.Given as goal

abbrev pub invariant-loop-left : goal.invariant-loop-left
invariant-loop-left g l = Opening l.mode (map (λ name. name.now) l.names) (map (λ name. name.now) l.left) (g.O.Outs.slots l.fn.outs) (g.O.Outs.slots l.outs)

abbrev pub decreases-loop-left : goal.decreases-loop-left
decreases-loop-left g l = length l.left
