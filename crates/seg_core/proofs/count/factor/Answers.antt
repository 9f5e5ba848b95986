use Rattle.std.proofs.{Common.arith, lemmas.Grind.common_steps}
use Rattle.seg_core.specs.Count.{factor_of}
use Rattle.seg_core.proofs.count.factor.Goals as goal

pub returns-clause-value : goal.returns-clause-value
unfolding factor_of
returns-clause-value c = grind (arith, common_steps)
