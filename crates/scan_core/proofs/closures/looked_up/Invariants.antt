use Rattle.std.proofs.Common.{◌*◌, ◌%◌, ◌^◌}
use Rattle.scan_core.specs.inner.Closures.{Closes}
use Rattle.scan_core.proofs.closures.looked_up.Given as goal

abbrev pub invariant-loop-eight : goal.invariant-loop-eight
invariant-loop-eight l = Closes l.nodes l.at (l.word % 2 ^ (l.eight * 8)) l.all
