use Rattle.std.proofs.Common.{◌∙◌, ap}
use Rattle.csplit_core.{specs.{Output.Style, Cutter.seen}, proofs.TryLemmas.{passes_again, passes_next}}
use Rattle.csplit_core.proofs.line_cutter.LineCutter.pass.Goals as goal

pub returns-then-self-done : goal.returns-then-self-done
returns-then-self-done c = passes_again c.pass.new.self (ap (λ (s : Style). s.suppress) (c.behind-self.view_is ∙ c.style.ensures)) c.requires.fit c.requires.none c.requires.cuts c.index-operands-done.is c.pass.ensures c.if-self-done.true

pub returns : goal.returns
returns c = passes_next c.pass.new.self (ap (λ (s : Style). s.suppress) (c.behind-self.view_is ∙ c.style.ensures)) c.requires.fit c.requires.none c.requires.cuts c.index-operands-done.is c.pass.ensures (seen c.equip.new.self) c.equip.result c.equip.ensures.same c.equip.ensures.err
