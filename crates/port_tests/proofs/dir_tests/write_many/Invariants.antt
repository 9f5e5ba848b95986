use Rattle.std.proofs.Common.{◌≡◌}
use Rattle.port_tests.proofs.dir_tests.write_many.Given as goal

abbrev pub invariant-loop-number : goal.invariant-loop-number
invariant-loop-number l = l.outs ≡ l.fn.outs
