use Rattle.std.proofs.Common.{◌++◌, ap}
use Rattle.engine_core.specs.Draft.{told_of_files}
use Rattle.split_core.specs.Split.{output_by, settled_by, whole_by}
use Rattle.split_core.proofs.laws.lines_are_of_opened_files.Goals as goal

pub returns : goal.returns
returns c = record {
  settled = λ plan is x. ap (λ verbose. told_of_files (output_by verbose) (settled_by plan x).files) is;
  whole = λ plan is x. ap (λ verbose. told_of_files (output_by verbose) (whole_by plan x).files) is;
  none = λ plan is x. ap (λ verbose. told_of_files (output_by verbose) (settled_by plan x).files ++ told_of_files
      (output_by verbose) (whole_by plan x).files) is;
}
