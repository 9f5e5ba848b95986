use Rattle.std.proofs.Common.{◌≡◌}
use Rattle.port_tests.proofs.dir_tests.write_rounds.Given as goal

abbrev pub invariant-loop-round : goal.invariant-loop-round
invariant-loop-round l = l.outs ≡ l.fn.outs
