use Rattle.std.proofs.Common.{refl, ◌≡◌, ◌-◌, suc, arith}
use Rattle.ports_core.{specs.Source.skips, proofs.DirInLemmas.file_changes}
use Rattle.ports_core.proofs.dir_in.DirInInputs.skip.Goals as goal

pub returns-clause-rest : goal.returns-clause-rest
returns-clause-rest g c could =
    file_changes _ (skips c.args.count) _ c.self.view_is (let next : c.args.slot ≡ suc (c.args.slot - 1) =
    omega arith in next) c.requires c.index_mut.ensures.value (c.skip.ensures.rest could) refl
