use Rattle.std.proofs.Common.{◌≡◌, false}
use Rattle.split_core.specs.Ways.{Ready}
use Rattle.engine_tests.proofs.told_tests.tells_in_pieces.Given as goal

abbrev pub invariant-loop-piece : goal.invariant-loop-piece
invariant-loop-piece l = l.splitter.is_over ≡ false → Ready l.splitter.stage l.outs
