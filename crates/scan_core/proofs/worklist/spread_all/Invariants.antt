use Rattle.std.proofs.Common.{◌+◌, ◌*◌, ◌-◌, length}
use Rattle.scan_core.{specs.inner.Words.unset, proofs.Insides.Spreading}
use Rattle.scan_core.proofs.worklist.spread_all.Given as goal

abbrev pub invariant-numbers : goal.invariant-numbers
invariant-numbers l = Spreading l.nodes l.at_first l.at_last l.fn.words l.words l.number

abbrev pub decreases-numbers : goal.decreases-numbers
decreases-numbers l = unset l.words * (length l.nodes + 1) + (length l.nodes - l.number)
