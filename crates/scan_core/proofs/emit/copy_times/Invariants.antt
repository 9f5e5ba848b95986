use Rattle.std.proofs.Common.{◌≡◌, ◌++◌}
use Rattle.scan_core.specs.{Code.copies, inner.Backwards.stretch}
use Rattle.scan_core.proofs.emit.copy_times.Given as goal

abbrev pub invariant-loop-done : goal.invariant-loop-done
invariant-loop-done l = l.nodes.items ≡ l.initial.nodes.items ++ copies l._done (stretch l.from l.size l.initial.nodes.items)
