use Rattle.std.proofs.Common.{◌≡◌, length}
use Rattle.tee_core.specs.Run.{any_is}
use Rattle.tee_core.proofs.standing.any_is.Given as goal

abbrev pub invariant-loop-standings : goal.invariant-loop-standings
invariant-loop-standings l = any_is l.one l.fn.standings ≡ any_is l.one l.standings

abbrev pub decreases-loop-standings : goal.decreases-loop-standings
decreases-loop-standings l = length l.standings
