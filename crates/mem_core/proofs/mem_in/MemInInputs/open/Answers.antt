use Rattle.std.proofs.Common.{◌≡◌, List, Some, None, refl, subst, length, arith, map}
use Rattle.ports_core.{specs.Source.no_room, proofs.HandedOn.fault_is}
use Rattle.mem_core.{
  specs.{MemInState.{Laid, laid_at, breaks_in}, declared.mem_in.Break.Break},
  proofs.MemInLemmas.{opened_nothing, opened_file, kept_all},
}
use Rattle.mem_core.proofs.mem_in.MemInInputs.open.Goals as goal

pub returns-then-keep-clause-err : goal.returns-then-keep-clause-err
returns-then-keep-clause-err c = opened_nothing c.self.view_is (subst (λ (files : List Laid). laid_at files c.args.name.now ≡ None) c.deref.ensures.value c.in_default.ensures.none) (c.if-keep.ensures.kept refl) c.missing.ensures (let counts : c.len-slot.result ≡ length c.self.inside.sources.items = omega arith in counts)

pub returns-in_default-clause-err : goal.returns-in_default-clause-err
returns-in_default-clause-err c = kept_all c.self.view_is (c.if-keep.ensures.full refl)

pub returns-in_err-source-clause-err : goal.returns-in_err-source-clause-err
returns-in_err-source-clause-err c = fault_is _ _ _ c.from_residual.ensures.1 (no_room refl)

pub returns-then-keep-2-clause-ok : goal.returns-then-keep-2-clause-ok
returns-then-keep-2-clause-ok c = opened_file _ c.self.view_is (subst (λ (files : List Laid). laid_at files c.args.name.now ≡ Some c.in-Some.file.now) c.deref.ensures.value c.in-Some.ensures.some) c.in_ok-source.ensures (subst (λ (breaks : List Break). c.break_as_planned.new.source ≡ breaks_in (map (λ b. (b.slot, b.at)) breaks) c.len-slot.result c.in_ok-source.source) c.deref-2.ensures.value c.break_as_planned.ensures) (c.if-keep-2.ensures.kept refl) (let counts : c.len-slot.result ≡ length c.self.inside.sources.items = omega arith in counts)

pub returns-clause-err : goal.returns-clause-err
returns-clause-err c = kept_all c.self.view_is (c.if-keep-2.ensures.full refl)
