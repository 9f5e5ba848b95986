use Rattle.std.proofs.Common.{refl, ◌≡◌, ◌-◌, suc, arith}
use Rattle.ports_core.{specs.Source.gets_back, proofs.DirInLemmas.file_changes}
use Rattle.ports_core.proofs.dir_in.DirInInputs.give_back.Goals as goal

pub returns-else-slot-eq0-clause-rest : goal.returns-else-slot-eq0-clause-rest
returns-else-slot-eq0-clause-rest g c = file_changes _ (gets_back c.args.count) _ c.self.view_is
    (let next : c.args.slot ≡ suc (c.args.slot - 1) = omega arith in next) c.requires.input c.index_mut.ensures.value c.give_back.ensures refl
