use Rattle.std.proofs.{Common.{[], arith, inr, refl}, lemmas.Grind.common_steps}
use Rattle.ports_core.{
  specs.declared.reason.Reason.TheVariants.Other,
  proofs.SlotLemmas.{opens_in_vain, opens_unkept, no_number_left},
}
use Rattle.mem_core.proofs.mem_out.MemOutOuts.open.Goals as goal

pub returns-in_default-clause-err : goal.returns-in_default-clause-err
returns-in_default-clause-err c = no_number_left [] _ _ c.self.view_is c.in_default.ensures.full

pub returns-in_default-room_for-clause-err : goal.returns-in_default-room_for-clause-err
returns-in_default-room_for-clause-err c = opens_in_vain Other [] _ _ c.self.view_is c.in-Some.ensures.next.0 (inr refl) c.in_default-room_for.ensures.lost

pub returns-then-fails-clause-err : goal.returns-then-fails-clause-err
returns-then-fails-clause-err c =
    opens_unkept [] _ _ c.self.view_is c.in-Some.ensures.next.0 c.in-Some-room_for.ensures.name
    c.refused.ensures c.in-Some-room_for.ensures.same c.keep.ensures.kept c.keep.ensures.lost

pub returns-clause-err : goal.returns-clause-err
returns-clause-err c = opens_in_vain Other [] _ _ c.self.view_is c.in-Some.ensures.next.0 (inr refl) (grind (arith, common_steps))
