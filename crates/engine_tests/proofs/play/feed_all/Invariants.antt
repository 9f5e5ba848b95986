use Rattle.std.proofs.Common.{◌≡◌, false}
use Rattle.engine_tests.proofs.play.feed_all.Given as goal

abbrev pub invariant-loop-piece : goal.invariant-loop-piece
invariant-loop-piece g l = l.engine.is_over ≡ false → g.S.Stage.terms.Ready l.engine.stage l.outs
