use Rattle.ports_core.proofs.HandedOn.{result_is}
use Rattle.std.proofs.{
  Common.{ap, arith, inl, inr, length, refl, sym},
  lemmas.{Bool.eqb-true, List.{length-append, length-take, take_rest}},
}
use Rattle.split_core.{specs.inner.Cutter.CutsSo, proofs.CutterLemmas.{away_more, away_none, away_so, away_stops}}
use Rattle.split_core.proofs.chunk_cutter.ChunkCutter.cut.Goals as goal

pub stretches-init : goal.stretches-init
stretches-init g c = away_none c.requires.ready

pub returns-in_err-n : goal.returns-in_err-n
returns-in_err-n g c = result_is (CutsSo _ _ _ _ _) _ _ c.from_residual.ensures.1
    (rw (c.min-own.ensures, c.saturating_sub.ensures) at (away_stops c.stretches.invariant c.in_err-n.ensures))

pub stretches-preserved : goal.stretches-preserved
stretches-preserved g c = away_more c.stretches.invariant c.in_ok-n.ensures
    (sym c.if-is_past.ensures) (take_rest c.stretches.left.now c.in_ok-n.n)

pub returns-then-is_past : goal.returns-then-is_past
returns-then-is_past g c = away_so c.stretches.invariant c.args.text.now c.min-own.result
    (rw (c.min-own.ensures, c.saturating_sub.ensures) refl) refl refl (inr (sym c.if-is_past.ensures))

pub returns : goal.returns
returns g c =
    let none : _ = eqb-true _ _ (sym c.stretches-test.ensures) in
    away_so c.stretches.invariant c.args.text.now c.min-own.result
    (rw (c.min-own.ensures, c.saturating_sub.ensures) refl) refl (omega arith) (inl none)

pub step-requires-clause-fits : goal.step-requires-clause-fits
step-requires-clause-fits g c = let away =
    c.stretches.invariant in omega (
      arith,
      ap length away.both,
      length-append away.done c.stretches.left.now,
      length-take c.min-own.result c.args.text.now,
    )

pub overflow_add-result : goal.overflow_add-result
overflow_add-result g c = let away =
    c.stretches.invariant in omega (
      arith,
      ap length away.both,
      length-append away.done c.stretches.left.now,
      length-take c.min-own.result c.args.text.now,
    )
