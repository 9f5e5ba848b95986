use Rattle.std.proofs.Common.{◌≡◌, [], length}
use Rattle.engine_tests.proofs.follow_tests.watch_of.Given as goal

abbrev pub invariant-loop-left : goal.invariant-loop-left
invariant-loop-left l = record {
  turns : l.watch.turns ≡ 0;
  watched : l.watch.watched ≡ [];
}

abbrev pub decreases-loop-left : goal.decreases-loop-left
decreases-loop-left l = length l.left
