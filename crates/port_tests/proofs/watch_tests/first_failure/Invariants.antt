use Rattle.std.proofs.Common.{IsTrue}
use Rattle.watch_core.specs.Watched.{is_readable}
use Rattle.port_tests.proofs.watch_tests.first_failure.Given as goal

abbrev pub invariant-loop-call : goal.invariant-loop-call
invariant-loop-call g l = IsTrue (is_readable l.watch.watched 0)
