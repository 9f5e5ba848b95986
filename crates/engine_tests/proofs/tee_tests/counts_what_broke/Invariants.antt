use Rattle.std.proofs.Common.{◌≡◌, false}
use Rattle.tee_core.specs.Outputs.{IsReady}
use Rattle.engine_tests.proofs.tee_tests.counts_what_broke.Given as goal

abbrev pub invariant-loop-piece : goal.invariant-loop-piece
invariant-loop-piece g l = l.tee.is_over ≡ false → IsReady l.tee l.outs
