use Rattle.std.proofs.{lemmas.Grind.common_steps, Common.arith}
use Rattle.seg_core.proofs.Counts.{count_of-parts, unsigned-none, count_of-scaled, sized-ok, sized-too_large}
use Rattle.seg_core.proofs.count.read_count.Goals as goal

pub returns-then-end-eq0 : goal.returns-then-end-eq0
returns-then-end-eq0 c = grind (arith, common_steps, count_of-parts, unsigned-none)

pub returns-in_default : goal.returns-in_default
returns-in_default c = grind (arith, common_steps, count_of-scaled)

pub returns-then-amount-le-GREATEST : goal.returns-then-amount-le-GREATEST
returns-then-amount-le-GREATEST c = grind (arith, common_steps, count_of-scaled, sized-ok)

pub returns-else-amount-le-GREATEST : goal.returns-else-amount-le-GREATEST
returns-else-amount-le-GREATEST c = grind (arith, common_steps, count_of-scaled, sized-too_large)
