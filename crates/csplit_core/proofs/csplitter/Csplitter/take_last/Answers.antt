use Rattle.csplit_core.proofs.LineLemmas.{open_is_line}
use Rattle.std.proofs.lemmas.Grind.{common_steps}
use Rattle.std.proofs.Common.{sym, ◌∙◌, arith}
use Rattle.csplit_core.proofs.StageLemmas.{last_none}
use Rattle.csplit_core.proofs.csplitter.Csplitter.take_last.Goals as goal

pub returns-then-is_empty-clause-takes : goal.returns-then-is_empty-clause-takes
returns-then-is_empty-clause-takes g c =
    last_none c.self.view_is (omega arith) (sym c.is_empty.ensures ∙ c.if-is_empty.true) c.requires.ready c.requires.sound

pub take_line-requires-clause-line : goal.take_line-requires-clause-line
take_line-requires-clause-line g c = grind (arith, common_steps, open_is_line)
