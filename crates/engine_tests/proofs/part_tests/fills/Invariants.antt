use Rattle.std.proofs.Common.{◌≡◌, false}
use Rattle.split_core.specs.Ways.{Ready}
use Rattle.engine_tests.proofs.part_tests.fills.Given as goal

abbrev pub invariant-loop-piece : goal.invariant-loop-piece
invariant-loop-piece l = l.splitter.is_over ≡ false → Ready l.splitter.stage l.outs
