use Rattle.std.proofs.Common.{◌∙◌, sym, subst, Err}
use Rattle.operand_core.{
  specs.{Reading.posix_text, inner.Aiming.IsReadAs},
  proofs.AimLemmas.read_elsewhere,
}
use Rattle.operand_core.proofs.target.read_text.Goals as goal

pub returns-in-Cutters : goal.returns-in-Cutters
returns-in-Cutters c = rw c.in-Cutters.is c.read_posix.ensures

pub returns : goal.returns
returns c =
    subst (λ calling. IsReadAs (posix_text calling c.args.text.now) (Err c.as_typed.result)) (sym c.in-OwnName.is)
    (subst (λ text. IsReadAs text (Err c.as_typed.result)) (c.deref.ensures.value ∙ c.in_ok-posix-in-OwnName.ensures)
    (read_elsewhere c.deref.result.now c.in-Err.fault c.as_typed.result c.as_typed.ensures.kind c.in-Err.ensures))
