use Rattle.std.proofs.{Common.arith, lemmas.Grind.common_steps}
use Rattle.mem_core.proofs.mem_world.copy_files.Goals as goal

pub loop-file-preserved : goal.loop-file-preserved
loop-file-preserved c = grind (arith, common_steps)
