use Rattle.std.proofs.{Common.arith}
use Rattle.ports_core.proofs.CounterLemmas.{block_has_two, next_size}
use Rattle.ports_core.proofs.numbering.block_at.Goals as goal

pub blocks-2-smaller : goal.blocks-2-smaller
blocks-2-smaller c = grind (arith, block_has_two)

pub blocks-2-preserved : goal.blocks-2-preserved
blocks-2-preserved c = grind (arith, block_has_two, next_size)
