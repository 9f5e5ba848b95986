use Rattle.ports_core.proofs.HandedOn.{result_is}
use Rattle.std.proofs.Common.{Some, arith, refl}
use Rattle.split_core.{
  specs.inner.Cutter.CutsStretch,
  proofs.CutterLemmas.{cuts_all, cuts_not, cuts_on, cutting, steps_short, steps_so},
}
use Rattle.split_core.proofs.chunk_cutter.ChunkCutter.step.Goals as goal

pub returns-in_err-n : goal.returns-in_err-n
returns-in_err-n g c =
    let wrote = c.in_err-n.ensures in
    result_is (CutsStretch _ _ _ _ _) _ _ c.from_residual.ensures.1
    (cuts_all c.args.text.now (rw c.end_of-end.ensures refl)
    (cuts_not c.args.text.now (rw c.end_of-end.ensures refl) c.requires.text wrote.chunks wrote.kept wrote.changes))

pub returns-in_err-end_full : goal.returns-in_err-end_full
returns-in_err-end_full g c =
    let wrote = c.in_ok-n.ensures in
    let is = rw c.end_of-end.ensures at wrote.count.2 in
    result_is (CutsStretch _ _ _ _ _) _ _ c.from_residual-in_err-end_full.ensures.1
    (cuts_all c.args.text.now is (cuts_on c.args.text.now (Some c.in_err-end_full.field-0.0) is
    (cutting c.args.text.now wrote) (rw (← wrote.count.2) at wrote.changes) c.in_err-end_full.ensures))

pub returns-in_ok-end_full : goal.returns-in_ok-end_full
returns-in_ok-end_full g c =
    steps_so _ (rw c.end_of-end.ensures at c.in_ok-n.ensures) c.in_ok-end_full.ensures

pub returns-else-self-end : goal.returns-else-self-end
returns-else-self-end g c = steps_short _ (rw c.end_of-end.ensures at c.in_ok-n.ensures) (omega arith)
