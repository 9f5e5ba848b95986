use Rattle.ports_core.proofs.HandedOn.{handed_on}
use Rattle.engine_core.proofs.{
  FileBegunLemmas.{begin_made, begin_unmade, paused_ready, ended_none},
  FileWriterLemmas.goes_still,
}
use Rattle.engine_core.proofs.file_writer.FileWriter.begin.Goals as goal
use Rattle.std.proofs.Common.{arith}

pub returns-in-Never-clause-goes : goal.returns-in-Never-clause-goes
returns-in-Never-clause-goes g c = rw c.in-Never.is (grind (arith, goes_still, ended_none, paused_ready))

pub returns-in-Late-clause-goes : goal.returns-in-Late-clause-goes
returns-in-Late-clause-goes g c = rw c.in-Late.is (grind (arith, goes_still, ended_none, paused_ready))

pub returns-in_err-make_file-in-AtOnce-clause-goes : goal.returns-in_err-make_file-in-AtOnce-clause-goes
returns-in_err-make_file-in-AtOnce-clause-goes g c = rw (handed_on _ _ c.from_residual.ensures.1)
    (begin_unmade c.in-AtOnce.is c.requires c.in_err-make_file-in-AtOnce.ensures)

pub returns-in_ok-make_file-in-AtOnce-clause-goes : goal.returns-in_ok-make_file-in-AtOnce-clause-goes
returns-in_ok-make_file-in-AtOnce-clause-goes g c = begin_made c.in-AtOnce.is c.requires c.in_ok-make_file-in-AtOnce.ensures
