use Rattle.scan_core.proofs.Searchings.{Searched}
use Rattle.scan_core.proofs.search.search.Given as goal

abbrev pub invariant-loop-place : goal.invariant-loop-place
invariant-loop-place l = Searched l.nodes l.line l.place l.words l.steps
