use Rattle.std.proofs.Common.{sym}
use Rattle.tee_core.proofs.ChangeLemmas.{newly_none}
use Rattle.tee_core.proofs.tee.Tee.close.Goals as goal

pub returns-then-replace-clause-broke : goal.returns-then-replace-clause-broke
returns-then-replace-clause-broke g c = sym (newly_none _)
