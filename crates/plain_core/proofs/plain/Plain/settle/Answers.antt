use Rattle.std.proofs.Common.{sym, ◌∙◌}
use Rattle.plain_core.proofs.Tables.{settled_is}
use Rattle.plain_core.proofs.plain.Plain.settle.Goals as goal

pub returns-in_ok-self-clause-before : goal.returns-in_ok-self-clause-before
returns-in_ok-self-clause-before c = λ current frame.
    settled_is c.args.line.now current c.args.self.now.before frame (sym c.take.ensures.value ∙ c.in-Some.is) c.in_ok-self.ensures.ok
