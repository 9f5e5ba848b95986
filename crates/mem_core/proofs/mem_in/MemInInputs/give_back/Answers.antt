use Rattle.ports_core.specs.Source.{gets_back}
use Rattle.mem_core.proofs.MemInLemmas.{source_changes}
use Rattle.mem_core.proofs.mem_in.MemInInputs.give_back.Goals as goal

pub returns-clause-rest : goal.returns-clause-rest
returns-clause-rest c = source_changes c.args.slot (gets_back c.args.count) c.self.view_is c.requires.input c.index_mut.ensures.value c.give_back.ensures
