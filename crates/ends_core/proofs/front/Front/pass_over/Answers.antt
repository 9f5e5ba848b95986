use Rattle.ports_core.proofs.InputsLemmas.{passes_none}
use Rattle.ends_core.proofs.KeptLemmas.{stays}
use Rattle.ends_core.proofs.front.Front.pass_over.Goals as goal

pub returns-in-Lines-clause-passes : goal.returns-in-Lines-clause-passes
returns-in-Lines-clause-passes g c = passes_none _ _ (stays c.args.self.now c.args.self.now.unit)
