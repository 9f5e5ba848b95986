use Rattle.ports_core.proofs.HandedOn.{handed_on}
use Rattle.engine_core.proofs.{
  FileWriterLemmas.{put_file, goes_still},
  FileBegunLemmas.{first_bytes, goes_made, goes_unmade},
}
use Rattle.std.proofs.{Common.arith, lemmas.Grind.common_steps}
use Rattle.engine_core.proofs.file_writer.FileWriter.put.Goals as goal

pub returns-in-Skipped-clause-goes : goal.returns-in-Skipped-clause-goes
returns-in-Skipped-clause-goes g c = grind (arith, goes_still)

pub returns-in_err-slot-in-Due-clause-goes : goal.returns-in_err-slot-in-Due-clause-goes
returns-in_err-slot-in-Due-clause-goes g c = rw (handed_on _ _ c.from_residual.ensures.1)
    (goes_unmade c.requires.ready (λ draft now. (first_bytes _ c.args.bytes.now c.in-Due.is c.if-is_empty.ensures draft now).0) c.in_err-slot-in-Due.ensures)

pub returns-in_ok-slot-in-Due-clause-goes : goal.returns-in_ok-slot-in-Due-clause-goes
returns-in_ok-slot-in-Due-clause-goes g c =
    goes_made c.args.bytes.now (first_bytes _ c.args.bytes.now c.in-Due.is c.if-is_empty.ensures) c.requires.ready c.in_ok-slot-in-Due.ensures c.append.ensures

pub returns-in-File-clause-goes : goal.returns-in-File-clause-goes
returns-in-File-clause-goes g c = put_file c.args.bytes.now c.in-File.is c.requires.ready c.append-in-File.ensures

pub returns-then-is_empty-clause-goes : goal.returns-then-is_empty-clause-goes
returns-then-is_empty-clause-goes g c = grind (arith, common_steps)

pub append-requires-clause-writable : goal.append-requires-clause-writable
append-requires-clause-writable g c = grind (arith, common_steps)
