use Rattle.std.proofs.Common.{refl}
use Rattle.ports_core.proofs.HandedOn.{of_write}
use Rattle.engine_core.{proofs.FileWriterLemmas.stop_is, specs.inner.{Write.broke, FileWriter.Appends}}
use Rattle.engine_core.proofs.file_writer.FileWriter.append.Goals as goal

pub returns-in_err-write_whole : goal.returns-in_err-write_whole
returns-in_err-write_whole g c = stop_is (Appends _ _ _ _ _ _) _ _
    (of_write _ _ _ c.from_residual.ensures.1 c.in_err-write_whole.ensures.slot)
    (record { same = refl; current = tt; still = refl; wrote = broke c.in_err-write_whole.field-0.0.written c.in_err-write_whole.ensures.cut })
