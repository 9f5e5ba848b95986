use Rattle.std.proofs.Common.{◌≡◌, length}
use Rattle.match_time.proofs.each_unclear.Given as goal

abbrev pub invariant-loop-rest : goal.invariant-loop-rest
invariant-loop-rest l = l.scan.positions ≡ l.initial.scan.positions

abbrev pub decreases-loop-rest : goal.decreases-loop-rest
decreases-loop-rest l = length l.rest
