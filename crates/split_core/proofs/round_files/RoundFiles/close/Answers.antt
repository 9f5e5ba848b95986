use Rattle.std.proofs.Common.{length, ap, arith}
use Rattle.ports_core.proofs.HandedOn.{result_is}
use Rattle.split_core.{
  specs.{FilesState.FilesState, inner.Sharing.ClosesAll},
  proofs.FilesLemmas.{all_closed, not_closed, one_closed, output_is},
}
use Rattle.split_core.proofs.round_files.RoundFiles.close.Goals as goal

pub returns-in_err-close : goal.returns-in_err-close
returns-in_err-close g c =
    let at = output_is c.args.self.now c.loop-place.place (ap (λ (files : FilesState). files.outputs) c.self.view_is)
    (omega arith) c.index.ensures in
    result_is (ClosesAll _ _) _ _ c.from_residual.ensures.1
    (not_closed _ c.requires.ready at.0 c.loop-place.invariant at.1 c.in_err-close.ensures.err)

pub loop-place-preserved : goal.loop-place-preserved
loop-place-preserved g c =
    let at = output_is c.args.self.now c.loop-place.place (ap (λ (files : FilesState). files.outputs) c.self.view_is)
    (omega arith) c.index.ensures in
    one_closed _ c.requires.ready at.0 c.loop-place.invariant
    (rw at.1 at c.in_ok-close.ensures.ok)

pub returns : goal.returns
returns g c = all_closed (omega (arith, ap (λ (files : FilesState). length files.outputs) c.self.view_is))
    c.loop-place.invariant
