use Rattle.std.proofs.Common.{[], arith, refl, ◌∙◌, sym}
use Rattle.ports_core.{
  specs.Slot.{Slot, closes, breaks},
  proofs.SlotLemmas.{kept_changes, changed_at-again, writable_kept},
}
use Rattle.mem_core.proofs.mem_out.MemOutOuts.close.Goals as goal

pub returns-then-fails-clause-err : goal.returns-then-fails-clause-err
returns-then-fails-clause-err c = (
  refl,
  (
    c.planned-why.result,
    kept_changes [] _ _ c.self.view_is (omega arith) (λ (slot : Slot). breaks c.planned-why.result (closes slot))
        (writable_kept [] _ _ c.self.view_is (omega arith) c.requires.1) c.index_mut-out.ensures.value
        c.close_broken.ensures
        ∙ sym (changed_at-again c.args.slot closes (breaks c.planned-why.result) c.args.self.now),
  ),
)

pub returns-clause-ok : goal.returns-clause-ok
returns-clause-ok c = kept_changes [] _ _ c.self.view_is (omega arith) closes (writable_kept [] _ _ c.self.view_is (omega arith) c.requires.1) c.index_mut-out.ensures.value c.close.ensures
