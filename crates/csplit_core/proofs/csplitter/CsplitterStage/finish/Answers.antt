use Rattle.std.proofs.Common.{ap, subst}
use Rattle.ports_core.proofs.HandedOn.{handed_on}
use Rattle.csplit_core.{
  specs.{CsplitState.CsplitState, Cutter.seen, inner.Cutter.{Judges, ended_well, ended_short, ended_so}},
  proofs.StageLemmas.{closed_on, closed_short},
}
use Rattle.csplit_core.proofs.csplitter.CsplitterStage.finish.Goals as goal

pub returns-in_err-take_last-clause-closes : goal.returns-in_err-take_last-clause-closes
returns-in_err-take_last-clause-closes g c = rw (handed_on _ _ c.from_residual.ensures.1) (ended_short _ (closed_short c.in_err-take_last.ensures.takes))

pub returns-in_err-end-clause-closes : goal.returns-in_err-end-clause-closes
returns-in_err-end-clause-closes g c = rw (handed_on _ _ c.from_residual-in_err-end.ensures.1)
    (ended_short _ (closed_on c.take_last.new.self
    (ap (λ (stage : CsplitState). stage.cutter) c.self.view_is) c.in_ok-take_last.ensures.takes c.in_err-end.ensures))

pub returns-in-None-clause-closes : goal.returns-in-None-clause-closes
returns-in-None-clause-closes g c =
    ended_well (closed_on c.take_last.new.self (ap
    (λ (stage : CsplitState). stage.cutter) c.self.view_is) c.in_ok-take_last.ensures.takes c.in_ok-end.ensures)
    (subst (Judges (seen c.end.new.self)) c.in-None.is c.verdict.ensures)

pub returns-in-Some-clause-closes : goal.returns-in-Some-clause-closes
returns-in-Some-clause-closes g c =
    ended_so c.in-Some.verdict (record { cutter = seen c.end.new.self; rest = c.self.inside.rest.items; taken = c.self.inside.taken }) _
    (closed_on c.take_last.new.self (ap (λ (stage : CsplitState). stage.cutter) c.self.view_is) c.in_ok-take_last.ensures.takes c.in_ok-end.ensures)
    (subst (Judges (seen c.end.new.self)) c.in-Some.is c.verdict.ensures) c.clear.ensures
