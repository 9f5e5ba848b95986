use Rattle.port_tests.proofs.ReadableLemmas.{still_looked, others_stay}
use Rattle.port_tests.proofs.reading.look.Goals as goal

pub returns-clause-sound : goal.returns-clause-sound
returns-clause-sound g c = still_looked c.args.slot _ (g.I.Inputs.sources c.args.inputs.now) (g.I.Inputs.sources c.read_at.new.self) c.read_at.ensures.rest c.requires

pub returns-clause-others : goal.returns-clause-others
returns-clause-others g c =
    λ other differs. others_stay c.args.slot other _ (g.I.Inputs.sources c.args.inputs.now) (g.I.Inputs.sources c.read_at.new.self) c.read_at.ensures.rest differs
