use Rattle.csplit_core.proofs.CutterLemmas.{sizes_are}
use Rattle.csplit_core.proofs.laws.sizes_are_of_closed_files.Goals as goal

pub returns : goal.returns
returns c = record {
  settled = λ style operands x loud. sizes_are style loud _;
  whole = λ style operands x loud. sizes_are style loud _;
}
