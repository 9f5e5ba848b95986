use Rattle.std.proofs.Common.{refl}
use Rattle.engine_core.proofs.SpareLemmas.{all_used}
use Rattle.csplit_core.proofs.csplitter.CsplitterStage.unused.Goals as goal

pub returns : goal.returns
returns c = λ x holds. all_used _ x refl
