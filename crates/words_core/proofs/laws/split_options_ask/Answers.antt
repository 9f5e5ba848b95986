use Rattle.std.proofs.{lemmas.Grind.common_steps, Common.arith}
use Rattle.seg_core.specs.Count.{digits_of}
use Rattle.words_core.specs.{Spelling.foremost, Table.tools}
use Rattle.words_core.proofs.laws.split_options_ask.Goals as goal

pub returns : goal.returns
unfolding tools digits_of foremost
returns c = grind (arith, common_steps)
