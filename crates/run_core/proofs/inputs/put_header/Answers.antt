use Rattle.run_core.specs.{inner.RunSteps.{broke, no_room}, Task.header_text}
use Rattle.std.proofs.{Common.{refl, ◌∙◌, ap, sym, arith}, lemmas.Grind.common_steps}
use Rattle.ports_core.proofs.HandedOn.{fault_is, of_write}
use Rattle.run_core.proofs.inputs.put_header.Goals as goal

pub returns-in_err-text-clause-err : goal.returns-in_err-text-clause-err
returns-in_err-text-clause-err g c = fault_is _ _ _ c.from_residual.ensures.1 (rw c.in_err-text.ensures.err (no_room refl))

pub returns-in_err-write_whole-clause-err : goal.returns-in_err-write_whole-clause-err
returns-in_err-write_whole-clause-err g c = fault_is _ _ _ (of_write _ _ _ c.from_residual-in_err-write_whole.ensures.1 c.in_err-write_whole.ensures.slot) (broke _ (rw (c.deref.ensures.value ∙ c.in_ok-text.ensures.ok ∙ ap (λ due. header_text due c.args.is_first c.args.name.now) (sym c.if-not-with_header.false ∙ c.with_header.ensures)) at c.in_err-write_whole.ensures.cut))

pub returns-then-not-with_header-clause-ok : goal.returns-then-not-with_header-clause-ok
returns-then-not-with_header-clause-ok g c = grind (arith, common_steps)
