use Rattle.std.proofs.Common.{refl}
use Rattle.ports_core.proofs.DirInLemmas.{file_stays}
use Rattle.ports_core.proofs.dir_in.DirInInputs.limit.Goals as goal

pub returns-else-slot-eq0-clause-same : goal.returns-else-slot-eq0-clause-same
returns-else-slot-eq0-clause-same g c = file_stays _ _ _ c.self.view_is c.index_mut.ensures.value c.limit_file.ensures refl
