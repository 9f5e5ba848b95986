use Rattle.std.proofs.{Common.arith, lemmas.Grind.common_steps}
use Rattle.operand_core.proofs.ReadingLemmas.{no_first, first_says, first_is_other}
use Rattle.operand_core.proofs.operands.times_before.Goals as goal

pub returns-in_default-clause-says : goal.returns-in_default-clause-says
returns-in_default-clause-says c = no_first c.args.words.now c.in_default.len_below

pub returns-in-Some-clause-says : goal.returns-in-Some-clause-says
returns-in-Some-clause-says c = grind (arith, common_steps, first_says)

pub returns-in-None-clause-says : goal.returns-in-None-clause-says
returns-in-None-clause-says c = grind (arith, common_steps, first_is_other)
