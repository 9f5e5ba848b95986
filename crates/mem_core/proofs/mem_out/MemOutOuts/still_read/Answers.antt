use Rattle.std.proofs.Common.{[], arith, refl}
use Rattle.ports_core.{
  specs.{Slot.breaks, declared.reason.Reason.TheVariants.Gone},
  proofs.SlotLemmas.{kept_changes, writable_kept},
}
use Rattle.mem_core.proofs.mem_out.MemOutOuts.still_read.Goals as goal

pub returns-then-fails-clause-err : goal.returns-then-fails-clause-err
returns-then-fails-clause-err c = (
  refl,
  kept_changes [] _ _ c.self.view_is (omega arith) (breaks Gone)
      (writable_kept [] _ _ c.self.view_is (omega arith) c.requires) c.index_mut.ensures.value c.break_off.ensures,
)
