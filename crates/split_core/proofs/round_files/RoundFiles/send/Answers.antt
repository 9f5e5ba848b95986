use Rattle.std.proofs.Common.{ap, arith, length}
use Rattle.ports_core.proofs.HandedOn.{result_is}
use Rattle.split_core.{
  specs.{FilesState.FilesState, inner.Sharing.Adds},
  proofs.FilesLemmas.{sent, sent_unreached, output_is},
}
use Rattle.split_core.proofs.round_files.RoundFiles.send.Goals as goal

pub returns-in_err-reach : goal.returns-in_err-reach
returns-in_err-reach g c = result_is (Adds _ _ _ _ _ _) _ _ c.from_residual.ensures.1 (sent_unreached c.args.bytes.now c.in_err-reach.ensures)

pub returns : goal.returns
returns g c = sent c.args.bytes.now c.write_bytes.result c.in_ok-reach.ensures
    (output_is c.reach.new.self c.args.place (ap (λ (files : FilesState). files.outputs) c.self.view_is)
    (omega (arith, c.in_ok-reach.ensures.adds.opened, ap (λ (files : FilesState). length files.outputs) c.self.view_is)) c.index.ensures).1
    c.write_bytes.ensures
