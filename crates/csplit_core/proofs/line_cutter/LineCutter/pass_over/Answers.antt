use Rattle.std.proofs.Common.{arith, subst, sym}
use Rattle.seg_core.proofs.Delimiters.{delimiters-le-length}
use Rattle.csplit_core.{specs.{Cutter.seen, Input.newline}, proofs.TryLemmas.{StaysOver, passes_all, stops_unfound}}
use Rattle.csplit_core.proofs.line_cutter.LineCutter.pass_over.Goals as goal

pub overflow_add-self : goal.overflow_add-self
overflow_add-self c = omega (arith, delimiters-le-length newline c.args.text.now)

pub returns-in-UsedUp : goal.returns-in-UsedUp
returns-in-UsedUp c = stops_unfound c.unfound-in-UsedUp.result
    (passes_all c.requires.sound c.requires.whole c.count_delimiters.ensures
    (subst (StaysOver (seen c.args.self.now) c.args.text.now _) (sym c.in-UsedUp.is) tt) (c.will_skip.ensures.no c.if-will_skip.false))
    c.unfound-in-UsedUp.ensures.size c.unfound-in-UsedUp.ensures.found
