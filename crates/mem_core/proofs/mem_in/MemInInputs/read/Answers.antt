use Rattle.std.proofs.Common.{refl}
use Rattle.ports_core.specs.Source.{fails, gives}
use Rattle.mem_core.proofs.MemInLemmas.{source_changes}
use Rattle.mem_core.proofs.mem_in.MemInInputs.read.Goals as goal

pub returns-in_default-clause-err : goal.returns-in_default-clause-err
returns-in_default-clause-err c =
    let why = c.planned-why.result in
    let broken = c.in_default.ensures.broken in
    (refl, (why, source_changes c.args.slot (fails why _) c.self.view_is c.requires c.index_mut.ensures.value broken))

pub returns-clause-rest : goal.returns-clause-rest
returns-clause-rest c = source_changes c.args.slot (gives _ c.in-Some.n) c.self.view_is c.requires c.index_mut.ensures.value c.in-Some.ensures.rest
