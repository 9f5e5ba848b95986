use Rattle.std.proofs.Common.{length}
use Rattle.ports_core.specs.Source.{looks}
use Rattle.mem_core.proofs.MemInLemmas.{source_changes}
use Rattle.mem_core.proofs.mem_in.MemInInputs.read_at.Goals as goal

pub returns-clause-rest : goal.returns-clause-rest
returns-clause-rest c = source_changes c.args.slot (looks (length c.args.buffer.now)) c.self.view_is c.requires c.index_mut.ensures.value c.read_at.ensures.rest
