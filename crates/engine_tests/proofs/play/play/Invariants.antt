use Rattle.std.proofs.Common.{◌≡◌, false}
use Rattle.engine_tests.proofs.play.play.Given as goal

abbrev pub invariant-loop-step : goal.invariant-loop-step
invariant-loop-step g l = l.engine.is_over ≡ false → g.S.Stage.terms.Ready l.engine.stage l.outs
