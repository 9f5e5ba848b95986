use Rattle.ports_core.proofs.HandedOn.{handed_on}
use Rattle.engine_core.proofs.{
  FileBegunLemmas.{close_not, end_told, tells_write, ended_none},
  FileWriterLemmas.goes_still,
}
use Rattle.engine_core.proofs.file_writer.FileWriter.end.Goals as goal
use Rattle.std.proofs.Common.{arith}

pub returns-in-Skipped-clause-goes : goal.returns-in-Skipped-clause-goes
returns-in-Skipped-clause-goes g c = grind (arith, goes_still, ended_none)

pub returns-in-Due-clause-goes : goal.returns-in-Due-clause-goes
returns-in-Due-clause-goes g c = grind (arith, goes_still, ended_none)

pub returns-in_err-close-in-File-clause-goes : goal.returns-in_err-close-in-File-clause-goes
returns-in_err-close-in-File-clause-goes g c = rw (handed_on _ _ c.from_residual.ensures.1)
    (close_not _ _ c.in-File.is c.requires c.in_err-close-in-File.ensures.err.0 c.in_err-close-in-File.ensures.err.1)

pub returns-in_ok-close-in-File-clause-goes : goal.returns-in_ok-close-in-File-clause-goes
returns-in_ok-close-in-File-clause-goes g c = end_told _ _ c.in-File.is c.requires c.in_ok-close-in-File.ensures.ok c.tell_size.ensures

pub returns-in_ok-close-in-File-clause-broke : goal.returns-in_ok-close-in-File-clause-broke
returns-in_ok-close-in-File-clause-broke g c = tells_write _ _ _ _ _ _ c.tell_size.ensures
