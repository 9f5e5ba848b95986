use Rattle.std.proofs.lemmas.Grind.{common_steps}
use Rattle.std.proofs.Common.{arith, false}
use Rattle.csplit_core.proofs.WholeLemmas.{none_lost_at_end, all_with}
use Rattle.csplit_core.proofs.laws.no_line_is_lost.Goals as goal

pub returns : goal.returns
returns c = record {
  settled = λ style operands x whole live. grind (arith, common_steps, whole, (all_with style whole false operands), live);
  whole = λ style operands x whole live. none_lost_at_end style whole operands x live;
}
