use Rattle.std.proofs.{Common.{◌∙◌, arith}, lemmas.Grind.common_steps}
use Rattle.scan_core.proofs.Countings.{none_in}
use Rattle.scan_core.proofs.worklist.begun_of.Goals as goal

pub begin-requires-clause-none : goal.begin-requires-clause-none
begin-requires-clause-none c =
    none_in _ _ (c.deref_mut.ensures.value ∙ c.in_ok-words.ensures.items_if_clones_equal (λ y same. same))

pub returns-clause-ok : goal.returns-clause-ok
returns-clause-ok c = grind (arith, common_steps)
