use Rattle.std.proofs.Common.{◌≡◌, false}
use Rattle.split_core.specs.Ways.{Ready}
use Rattle.engine_tests.proofs.chunks_plain_tests.gives.Given as goal

abbrev pub invariant-loop-piece : goal.invariant-loop-piece
invariant-loop-piece l = l.engine.is_over ≡ false → Ready l.engine.stage l.outs
