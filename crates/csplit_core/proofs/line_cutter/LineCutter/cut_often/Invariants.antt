use Rattle.std.proofs.Common.{◌++◌}
use Rattle.csplit_core.specs.{inner.{PlanLaws.needed, Cutter.{due, Spreading}}, Cutter.{seen, state_in}}
use Rattle.csplit_core.proofs.line_cutter.LineCutter.cut_often.Given as goal

abbrev pub invariant-loop-cut : goal.invariant-loop-cut
invariant-loop-cut g l = Spreading g.O.Outs.visible (due (seen l.fn.self) l.fn.cut (l.fn.self.window.held ++ l.fn.before) l.fn.rest l.fn.line) (g.O.Outs.slots l.fn.outs) (g.O.Outs.slots l.outs) (seen l.self) l.left

abbrev pub decreases-loop-cut : goal.decreases-loop-cut
decreases-loop-cut g l = needed l.self.lines (state_in (seen l.self))
