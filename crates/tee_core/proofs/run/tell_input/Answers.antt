use Rattle.ports_core.specs.Source.{source_at}
use Rattle.tee_core.proofs.TellLemmas.{input_told}
use Rattle.tee_core.proofs.run.tell_input.Goals as goal

pub returns-in-Some : goal.returns-in-Some
returns-in-Some g c =
    input_told _ (source_at (g.I.Inputs.sources c.args.inputs.now) 0) c.in-Some.is c.reason-why.ensures c.requires.1
    (rw c.tee_called.ensures at c.say.ensures)
