use Rattle.std.proofs.Common.{inr, ◌+◌, refl, true, arith}
use Rattle.scan_core.specs.declared.node.Node.TheVariants.{Choose}
use Rattle.scan_core.proofs.rarest.Rarest.far_after.Goals as goal

pub returns-clause-choice : goal.returns-clause-choice
returns-clause-choice c = λ skip here. let f = ((c.branch_of-branch.ensures.exact true true
    (c.args.at + skip)).0 (Choose skip, here, inr refl)).1 in omega arith
