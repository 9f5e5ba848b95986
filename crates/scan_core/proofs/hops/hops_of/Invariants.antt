use Rattle.scan_core.proofs.Closings.{Parting}
use Rattle.scan_core.proofs.hops.hops_of.Given as goal

abbrev pub invariant-loop-place : goal.invariant-loop-place
invariant-loop-place l = Parting l.nodes l.base l.all.items l.onward.items l.landings.items l.place
