use Rattle.std.proofs.Common.{refl}
use Rattle.csplit_core.proofs.TryLemmas.{passes_below, passes_short}
use Rattle.csplit_core.proofs.line_cutter.LineCutter.pass_below.Goals as goal

pub returns-in-Ends : goal.returns-in-Ends
returns-in-Ends c = passes_below _ c.past_last.result _ c.requires.sound c.requires.aim c.requires.near c.past_last.ensures refl c.in-Ends.ensures

pub returns : goal.returns
returns c = passes_short _ c.past_last.result c.requires.sound c.requires.whole c.requires.aim c.requires.near c.past_last.ensures refl c.in-Short.ensures
