use Rattle.std.proofs.Common.{◌∙◌, subst, Ok, Err}
use Rattle.operand_core.{
  specs.{Reading.posix_text, inner.Aiming.IsReadAs},
  proofs.AimLemmas.{lacks, is_refused_so, is_read},
}
use Rattle.operand_core.proofs.target.read_pattern.Goals as goal

pub returns-in_err-text : goal.returns-in_err-text
returns-in_err-text c = lacks _ c.from_residual.result c.from_residual.ensures.1

pub returns-in_err-pattern : goal.returns-in_err-pattern
returns-in_err-pattern c =
    let fault = c.in_err-pattern.field-0.0 in
    is_refused_so fault c.from_residual-in_err-pattern.result
    (subst (λ text. IsReadAs (posix_text c.args.calling text) (Err fault)) (c.deref.ensures.value ∙ c.in_ok-text.ensures) c.in_err-pattern.ensures)
    c.from_residual-in_err-pattern.ensures.1

pub returns : goal.returns
returns c =
    is_read _ _ c.args.offset c.in_ok-pattern.pattern
    (subst (λ text. IsReadAs (posix_text c.args.calling text) (Ok c.in_ok-pattern.pattern)) (c.deref.ensures.value ∙ c.in_ok-text.ensures) c.in_ok-pattern.ensures)
