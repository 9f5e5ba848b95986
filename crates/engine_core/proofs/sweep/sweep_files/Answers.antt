use Rattle.std.proofs.Common.{refl, sym, ◌∙◌, arith}
use Rattle.engine_core.proofs.SweepLemmas.{none_swept, sweep_on, sweep_past}
use Rattle.engine_core.proofs.sweep.sweep_files.Goals as goal

pub loop-place-init : goal.loop-place-init
loop-place-init g c = none_swept c.requires

pub loop-place-preserved-then-is_ok : goal.loop-place-preserved-then-is_ok
loop-place-preserved-then-is_ok g c =
    sweep_on _ c.loop-place.invariant (omega arith) refl (sym c.is_ok.ensures.value ∙ c.if-is_ok.true) c.remove.ensures.ok

pub loop-place-preserved : goal.loop-place-preserved
loop-place-preserved g c =
    sweep_past _ c.loop-place.invariant (omega arith) refl (sym c.is_ok.ensures.value ∙ c.if-is_ok.false) c.remove.ensures.err
