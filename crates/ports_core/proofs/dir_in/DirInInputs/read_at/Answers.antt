use Rattle.std.proofs.Common.{refl, ◌≡◌, ◌-◌, suc, arith}
use Rattle.ports_core.{specs.Source.looks, proofs.DirInLemmas.file_changes}
use Rattle.ports_core.proofs.dir_in.DirInInputs.read_at.Goals as goal

pub returns-clause-rest : goal.returns-clause-rest
returns-clause-rest g c =
    file_changes _ (looks _) _ c.self.view_is (let next : c.args.slot ≡ suc (c.args.slot - 1) = omega arith in
    next) c.requires c.index_mut.ensures.value c.read_at-2.ensures refl
