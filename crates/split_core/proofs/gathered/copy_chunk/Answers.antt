use Rattle.std.proofs.{lemmas.{Grind.common_steps, Simd.put_chunk_is}, Common.{arith, drop-drop, length-take-le}}
use Rattle.split_core.proofs.gathered.copy_chunk.Goals as goal

pub returns-clause-copied : goal.returns-clause-copied
returns-clause-copied c = grind (arith, common_steps, length-take-le, put_chunk_is, drop-drop)
