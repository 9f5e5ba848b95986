use Rattle.port_tests.proofs.ReadableLemmas.{kept_in_vain}
use Rattle.port_tests.proofs.reading.open_input.Goals as goal

pub returns-in-Err-clause-others : goal.returns-in-Err-clause-others
returns-in-Err-clause-others g c =
    λ other can. kept_in_vain g.I.Inputs.visible (g.I.Inputs.laid c.args.inputs.now) (g.I.Inputs.sources c.args.inputs.now) (g.I.Inputs.sources c.open.new.self) c.args.name.now c.in-Err.fault other c.in-Err.ensures.err can
