use Rattle.tee_core.proofs.AgreedLemmas.{tee_agreed, tee_undecided, tee_placed, copied_whole}
use Rattle.tee_core.proofs.laws.agreed_is_settled.Goals as goal

pub returns : goal.returns
returns c = record { outputs = tee_agreed; waits = tee_undecided; placed = tee_placed; whole = copied_whole }
