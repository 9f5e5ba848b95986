use Rattle.port_tests.proofs.ReadableLemmas.{still_passed, others_passed}
use Rattle.port_tests.proofs.reading.passes.Goals as goal

pub returns-clause-sound : goal.returns-clause-sound
returns-clause-sound g c =
    still_passed c.args.slot c.args.count (g.I.Inputs.sources c.args.inputs.now) (g.I.Inputs.sources c.skip.new.self) c.skip.result c.skip.ensures.rest c.skip.ensures.unchanged c.requires

pub returns-clause-others : goal.returns-clause-others
returns-clause-others g c =
    λ other differs. others_passed c.args.slot other c.args.count (g.I.Inputs.sources c.args.inputs.now) (g.I.Inputs.sources c.skip.new.self) c.skip.result c.skip.ensures.rest c.skip.ensures.unchanged differs
