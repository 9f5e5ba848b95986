use Rattle.ports_core.proofs.HandedOn.{handed_on}
use Rattle.std.proofs.Common.{refl, arith}
use Rattle.split_core.proofs.CutterLemmas.{ends_next, ends_none, ends_so, ends_stopped}
use Rattle.split_core.proofs.chunk_cutter.ChunkCutter.end_all.Goals as goal

pub places-init : goal.places-init
places-init g c = ends_none c.requires.ready

pub places-preserved : goal.places-preserved
places-preserved g c = ends_next c.requires.whole c.places.invariant (omega arith)
    (omega arith) refl refl refl c.in_ok-next.ensures.place c.in_ok-next.ensures.changes

pub returns-in_err-next : goal.returns-in_err-next
returns-in_err-next g c = rw (handed_on _ _ c.from_residual.ensures.1)
    (ends_stopped c.requires.whole c.places.invariant (omega arith)
    (omega arith) refl refl c.in_err-next.ensures.changes)

pub returns-else-chunk_start-self : goal.returns-else-chunk_start-self
returns-else-chunk_start-self g c = ends_so c.places.invariant (λ less. omega arith)

pub returns-after-places : goal.returns-after-places
returns-after-places g c = ends_so c.places.invariant (λ less. absurd (omega arith))
