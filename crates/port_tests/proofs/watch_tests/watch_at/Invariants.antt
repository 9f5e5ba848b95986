use Rattle.std.proofs.Common.{IsTrue}
use Rattle.watch_core.specs.Watched.{is_watchable}
use Rattle.port_tests.proofs.watch_tests.watch_at.Given as goal

abbrev pub invariant-loop : goal.invariant-loop
invariant-loop l = IsTrue (is_watchable l.watch.watched 0)
