use Rattle.std.proofs.Common.{◌-◌, length}
use Rattle.csplit_core.specs.{Cutter.seen, inner.Cutter.Taking}
use Rattle.csplit_core.proofs.line_cutter.LineCutter.take_lines.Given as goal

abbrev pub invariant-stretches : goal.invariant-stretches
invariant-stretches g l = Taking g.O.Outs.visible (seen l.fn.self) (seen l.self) l.fn.text l.stretch (g.O.Outs.slots l.fn.outs) (g.O.Outs.slots l.outs)

abbrev pub decreases-stretches : goal.decreases-stretches
decreases-stretches g l = length l.fn.text - l.stretch.end
