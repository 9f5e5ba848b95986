use Rattle.std.proofs.{Common.{refl, subst, sym, ◌∙◌, arith}, lemmas.{Result.{IfErr-weaker}}}
use Rattle.ports_core.proofs.{HandedOn.fault_is, SlotLemmas.length-changed_at}
use Rattle.engine_core.{proofs.OpenLemmas.{opens_none, told_so, untold}, specs.Names.{OpensNone, no_memory, no_name}}
use Rattle.engine_core.proofs.names.Names.open_next.Goals as goal

pub returns-in_err-name-clause-err : goal.returns-in_err-name-clause-err
returns-in_err-name-clause-err g c = fault_is _ _ _ c.from_residual.ensures.1
    (subst (OpensNone _ _ _ _ _ _) (sym c.in_err-name.ensures.err.0) (no_memory refl))

pub returns-in_default-clause-err : goal.returns-in_default-clause-err
returns-in_default-clause-err g c = no_name c.in_ok-name.ensures.few (rw c.in_default.is at c.in_ok-name.ensures.none) refl

pub returns-in_err-tell_opening-clause-err : goal.returns-in_err-tell_opening-clause-err
returns-in_err-tell_opening-clause-err g c = grind (arith, fault_is, untold)

pub returns-clause-slot : goal.returns-clause-slot
returns-clause-slot g c = grind (arith, length-changed_at)

pub returns-clause-err : goal.returns-clause-err
returns-clause-err g c =
    let named = c.as_str-2.ensures.value ∙ rw c.in-Some.is at c.in_ok-name.ensures.name in
    IfErr-weaker _ _ _ (λ fault fails. opens_none _ _ _ _ named c.in_ok-name.ensures.few
    (rw c.in-Some.is at c.in_ok-name.ensures.left) (rw c.in-Some.is at c.in_ok-name.ensures.drew)
    (told_so _ _ c.args.self.now _ _ (c.as_str.ensures.value
    ∙ rw c.in-Some.is at c.in_ok-name.ensures.name) c.in_ok-tell_opening.ensures) fails) c.open.ensures.err
