use Rattle.ports_core.proofs.HandedOn.{handed_on}
use Rattle.split_core.proofs.SinkLemmas.{file_ends, file_stops}
use Rattle.split_core.proofs.chunk_sink.end_file.Goals as goal

pub returns-in_err-make_empty : goal.returns-in_err-make_empty
returns-in_err-make_empty g c = rw (handed_on _ _ c.from_residual.ensures.1) (file_stops _ c.in_err-make_empty.ensures)

pub returns : goal.returns
returns g c = file_ends _ c.in_ok-make_empty.ensures c.next.ensures.goes
