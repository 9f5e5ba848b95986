use Rattle.std.proofs.Common.{arith}
use Rattle.csplit_core.proofs.TryLemmas.{clear_front, ends_there}
use Rattle.csplit_core.proofs.matcher.Matcher.clear_lines.Goals as goal

pub returns-clause-whole : goal.returns-clause-whole
returns-clause-whole c = ends_there c.args.text.now c.clear_lines.result c.clear_lines.ensures.within c.clear_lines.ensures.whole

pub returns-clause-clear : goal.returns-clause-clear
returns-clause-clear c = rw c.self.view_is at (clear_front c.self.inside.pattern.now c.args.text.now c.clear_lines.result c.clear_lines.result c.clear_lines.ensures.clear (omega arith) c.clear_lines.ensures.within (ends_there c.args.text.now c.clear_lines.result c.clear_lines.ensures.within c.clear_lines.ensures.whole))
