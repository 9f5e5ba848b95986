use Rattle.std.{proofs.Common.{◌≡◌, length}, specs.List.list_any}
use Rattle.tee_core.specs.Run.{ends_run}
use Rattle.tee_core.proofs.standing.any_ends.Given as goal

abbrev pub invariant-loop-standings : goal.invariant-loop-standings
invariant-loop-standings l = list_any (λ standing. ends_run standing l.on_broken) l.fn.standings ≡ list_any (λ standing. ends_run standing l.on_broken) l.standings

abbrev pub decreases-loop-standings : goal.decreases-loop-standings
decreases-loop-standings l = length l.standings
