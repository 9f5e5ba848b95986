use Rattle.std.proofs.{lemmas.Grind.common_steps, Common.arith}
use Rattle.words_core.specs.Table.{tools}
use Rattle.words_core.proofs.laws.csplit_options_ask.Goals as goal

pub returns : goal.returns
unfolding tools
returns c = grind (arith, common_steps)
