use Rattle.std.proofs.{Common.arith}
use Rattle.engine_core.proofs.LoadLemmas.{loads_none}
use Rattle.engine_core.proofs.stage.Stage.load.Goals as goal

pub returns-clause-loads : goal.returns-clause-loads
returns-clause-loads g c = grind (arith, loads_none)
