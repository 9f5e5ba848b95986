use Rattle.std.proofs.Common.{◌≡◌, ◌∷◌, []}
use Rattle.watch_core.specs.Watched.{added}
use Rattle.port_tests.proofs.watch_tests.watch_of.Given as goal

abbrev pub invariant-loop-edits : goal.invariant-loop-edits
invariant-loop-edits l = l.watch.watched ≡ added (102 ∷ []) ∷ []
