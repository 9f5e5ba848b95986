use Rattle.ports_core.proofs.DecimalLemmas.{digits_fill}
use Rattle.ports_core.proofs.laws.digits_fill_with_zeros.Goals as goal

pub returns : goal.returns
returns c = digits_fill
