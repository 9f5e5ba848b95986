use Rattle.port_tests.proofs.ReadableLemmas.{still_given, others_stay}
use Rattle.port_tests.proofs.reading.read.Goals as goal

pub returns-in-Ok-clause-sound : goal.returns-in-Ok-clause-sound
returns-in-Ok-clause-sound g c =
    still_given c.args.slot _ _ _ _ c.in-Ok.ensures.rest c.requires

pub returns-in-Ok-clause-others : goal.returns-in-Ok-clause-others
returns-in-Ok-clause-others g c =
    λ other differs. others_stay c.args.slot other _ _ _ c.in-Ok.ensures.rest differs

pub returns-in-Err-clause-others : goal.returns-in-Err-clause-others
returns-in-Err-clause-others g c =
    λ other differs. others_stay c.args.slot other _ _ _ c.in-Err.ensures.err.1.1 differs
