use Rattle.tee_core.{specs.inner.Steps.run_for, proofs.TellLemmas.Telling}
use Rattle.tee_core.proofs.run.tell_broken.Given as goal

abbrev pub invariant-loop-n : goal.invariant-loop-n
invariant-loop-n g l =
    Telling (run_for g.O.Outs.visible l.job) l.fault l.fn.known l.n (g.O.Outs.slots l.fn.outs) (g.O.Outs.slots l.outs)
    l.known
