use Rattle.ports_core.{proofs.HandedOn.handed_on}
use Rattle.std.proofs.Common.{refl}
use Rattle.split_core.proofs.UnsaidLemmas.{held_ends, held_not_cut, held_not_ended}
use Rattle.split_core.proofs.chunk_cutter.ChunkCutter.finish.Goals as goal

pub returns-in_err-end_full : goal.returns-in_err-end_full
returns-in_err-end_full g c =
    rw (handed_on _ _ c.from_residual.ensures.1, ← c.len.ensures) (held_not_ended (rw c.begin_first.ensures refl) c.in_err-end_full.ensures)

pub returns-in_err-cut : goal.returns-in_err-cut
returns-in_err-cut g c =
    rw (handed_on _ _ c.from_residual-in_err-cut.ensures.1, c.clear.ensures, ← c.len.ensures)
    (held_not_cut (rw c.begin_first.ensures refl) (rw c.len.ensures refl) c.in_ok-end_full.ensures (rw c.bytes.ensures at c.in_err-cut.ensures))

pub returns : goal.returns
returns g c = rw (c.clear.ensures, ← c.len.ensures)
    (held_ends (rw c.begin_first.ensures refl) _ (rw c.len.ensures refl) c.in_ok-end_full.ensures
    (rw c.bytes.ensures at c.in_ok-cut.ensures) c.end.ensures.brings refl refl)
