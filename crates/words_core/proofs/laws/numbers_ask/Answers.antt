use Rattle.std.proofs.{lemmas.Grind.common_steps, Common.arith}
use Rattle.words_core.specs.{Spelling.foremost, Table.tools}
use Rattle.words_core.proofs.laws.numbers_ask.Goals as goal

pub returns : goal.returns
unfolding tools foremost
returns c = grind (arith, common_steps)
