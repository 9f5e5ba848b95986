use Rattle.tee_core.proofs.EndLemmas.{ends_at_once, whole_of}
use Rattle.tee_core.proofs.run.run_tee.Goals as goal

pub returns-in-Ok-clause-whole : goal.returns-in-Ok-clause-whole
returns-in-Ok-clause-whole g c = λ tells zero_is sound. whole_of _ tells zero_is sound c.in-Ok.ensures.copied

pub returns-in-Err-clause-ends : goal.returns-in-Err-clause-ends
returns-in-Err-clause-ends g c =
    let tells = rw c.tee_called.ensures at c.tell.ensures in
    ends_at_once c.in-Err.ensures.err.0 c.requires.fresh c.requires.outputs c.in-Err.ensures.err.1 c.in-Err.ensures.err.2 (tells.told, tells.status)
