use Rattle.std.proofs.Common.{IsTrue}
use Rattle.watch_core.specs.Watched.{is_watchable}
use Rattle.port_tests.proofs.dir_watch_steps.take_all.Given as goal

abbrev pub invariant-loop-step : goal.invariant-loop-step
invariant-loop-step g l = IsTrue (is_watchable l.watch.watched 0)
