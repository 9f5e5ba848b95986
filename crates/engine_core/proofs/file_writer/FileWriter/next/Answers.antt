use Rattle.ports_core.proofs.HandedOn.{handed_on}
use Rattle.engine_core.proofs.WriterSteps.{next_not_ended, next_begun}
use Rattle.engine_core.proofs.file_writer.FileWriter.next.Goals as goal

pub returns-in_err-end-clause-goes : goal.returns-in_err-end-clause-goes
returns-in_err-end-clause-goes g c = rw (handed_on _ _ c.from_residual.ensures.1)
    (next_not_ended c.args.opening c.in_err-end.ensures.broke c.in_err-end.ensures.goes)

pub returns-clause-goes : goal.returns-clause-goes
returns-clause-goes g c = next_begun c.in_ok-end.ensures.goes c.in_ok-end.ensures.none c.begin.ensures.goes
