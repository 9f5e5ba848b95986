use Rattle.std.proofs.{Common.{◌∙◌, ◌∷◌, ◌-◌, [], ap, arith}, lemmas.Grind.common_steps}
use Rattle.ports_core.{specs.Slot.Slot, proofs.SlotLemmas.kept_there}
use Rattle.ports_core.proofs.dir_out.DirOutOuts.reason.Goals as goal

pub returns-in-Some : goal.returns-in-Some
returns-in-Some g c =
    let found = rw c.deref.ensures.value at c.in-Some.ensures.lookup in
    c.reason-in-Some.ensures ∙ ap (λ (slot : Slot). slot.reason)
    (kept_there (_ ∷ _ ∷ []) _ _ {at = c.args.slot - 2} c.self.view_is (omega arith) (omega arith) found.1)

pub returns-in-None : goal.returns-in-None
returns-in-None g c = grind (arith, common_steps)
