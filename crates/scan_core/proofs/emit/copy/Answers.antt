use Rattle.std.proofs.{Common.arith, lemmas.Grind.common_steps}
use Rattle.scan_core.proofs.emit.copy.Goals as goal

pub index-requires : goal.index-requires
index-requires c = grind (arith, common_steps)

pub loop-k-preserved : goal.loop-k-preserved
loop-k-preserved c = grind (arith, common_steps)
