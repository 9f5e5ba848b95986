use Rattle.ports_core.proofs.WriteLemmas.{none_written}
use Rattle.engine_core.proofs.names.tell_opening.Goals as goal

pub returns-in-Nothing : goal.returns-in-Nothing
returns-in-Nothing g c = rw c.in-Nothing.is (none_written _ 0)

pub returns-in-Sizes : goal.returns-in-Sizes
returns-in-Sizes g c = rw c.in-Sizes.is (none_written _ 0)
