use Rattle.std.proofs.Common.{[], arith, refl, take}
use Rattle.ports_core.{specs.Slot.{breaks, adds}, proofs.SlotLemmas.{kept_changes, writable_kept}}
use Rattle.mem_core.proofs.mem_out.MemOutOuts.write.Goals as goal

pub returns-then-fails-clause-err : goal.returns-then-fails-clause-err
returns-then-fails-clause-err c = (
  refl,
  (
    c.planned-why.result,
    kept_changes [] _ _ c.self.view_is (omega arith) (breaks c.planned-why.result)
        (writable_kept [] _ _ c.self.view_is (omega arith) c.requires) c.index_mut-out.ensures.value
        c.break_off.ensures,
  ),
)

pub returns-in_default-clause-err : goal.returns-in_default-clause-err
returns-in_default-clause-err c = (
  refl,
  (
    c.planned-why.result,
    kept_changes [] _ _ c.self.view_is (omega arith) (breaks c.planned-why.result)
        (writable_kept [] _ _ c.self.view_is (omega arith) c.requires) c.index_mut-out.ensures.value
        c.in_default.ensures.broke,
  ),
)

pub returns-clause-ok : goal.returns-clause-ok
returns-clause-ok c = record {
  within = c.in-Some.ensures.within;
  some = c.in-Some.ensures.some;
  slots = kept_changes [] _ _ c.self.view_is (omega arith) (adds (take c.in-Some.taken c.args.piece.now)) (writable_kept [] _ _ c.self.view_is (omega arith) c.requires) c.index_mut-out.ensures.value c.in-Some.ensures.added;
}
