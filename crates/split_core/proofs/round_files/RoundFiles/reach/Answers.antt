use Rattle.std.proofs.Common.{ap, length, arith, refl}
use Rattle.ports_core.proofs.HandedOn.{result_is}
use Rattle.engine_core.specs.Names.{no_memory}
use Rattle.split_core.{specs.{FilesState.FilesState, inner.Sharing.Opens}, proofs.FilesLemmas.{reached, reached_not}}
use Rattle.split_core.proofs.round_files.RoundFiles.reach.Goals as goal

pub returns-in_err-reserve : goal.returns-in_err-reserve
returns-in_err-reserve g c = result_is (Opens _ _ _ _ _) _ _ c.from_residual.ensures.1 (rw (← c.self.view_is, c.in_err-reserve.ensures.items)
    (reached_not _ _ _ (rw (← c.self.view_is) at c.requires.ready)
    (omega (arith, ap (λ (files : FilesState). length files.outputs) c.self.view_is))
    (rw (← c.self.view_is) at c.requires.named)
    refl (no_memory refl)))

pub returns-in_err-slot : goal.returns-in_err-slot
returns-in_err-slot g c = result_is (Opens _ _ _ _ _) _ _ c.from_residual-in_err-slot.ensures.1
    (rw (← c.self.view_is, c.in_ok-reserve.ensures.items)
    (reached_not _ _ _ (rw (← c.self.view_is) at c.requires.ready)
    (omega (arith, ap (λ (files : FilesState). length files.outputs) c.self.view_is))
    (rw (← c.self.view_is) at c.requires.named)
    c.open_next.ensures.same c.in_err-slot.ensures.err))

pub returns : goal.returns
returns g c = rw (← c.self.view_is, c.put.ensures, c.in_ok-reserve.ensures.items, c.in_ok-slot.ensures.drew, c.in_ok-slot.ensures.slot)
    (reached _ _ _ (rw (← c.self.view_is) at c.requires.ready)
    (omega (arith, ap (λ (files : FilesState). length files.outputs) c.self.view_is)) c.in_ok-slot.ensures.opened)
