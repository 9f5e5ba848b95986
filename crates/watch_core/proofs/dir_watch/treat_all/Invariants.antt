use Rattle.std.proofs.Common.{◌≡◌}
use Rattle.watch_core.proofs.dir_watch.treat_all.Given as goal

abbrev pub invariant-loop-place : goal.invariant-loop-place
invariant-loop-place l = l.names.items ≡ l.fn.names.items
