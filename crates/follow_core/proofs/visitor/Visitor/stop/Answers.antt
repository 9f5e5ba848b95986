use Rattle.std.proofs.Common.{refl}
use Rattle.follow_core.proofs.visitor.Visitor.stop.Goals as goal

pub returns-in-Broke-clause-tells : goal.returns-in-Broke-clause-tells
returns-in-Broke-clause-tells g c = rw c.in-Broke.is (refl, refl, c.say_failure.ensures)
