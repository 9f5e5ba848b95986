use Rattle.tee_core.proofs.LeftLemmas.{left_by}
use Rattle.tee_core.proofs.laws.outputs_end.Goals as goal

pub returns : goal.returns
returns c = left_by
