use Rattle.std.proofs.Common.{◌+◌, min}
use Rattle.scan_core.{specs.inner.Words.unset, proofs.Closings.Spreads}
use Rattle.scan_core.proofs.closing.spread_anywhere.Given as goal

abbrev pub invariant-passes : goal.invariant-passes
invariant-passes l = Spreads l.nodes l.closures l.fn.words l.words l.over

abbrev pub decreases-passes : goal.decreases-passes
decreases-passes l = unset l.words + min l.over 1
