use Rattle.std.proofs.Common.{◌≡◌}
use Rattle.bre_core.specs.Pattern.{positions_of}
use Rattle.match_time.proofs.best_of_rounds.Given as goal

abbrev pub invariant-loop-round : goal.invariant-loop-round
invariant-loop-round g l = l.scan.positions ≡ positions_of l.bre
