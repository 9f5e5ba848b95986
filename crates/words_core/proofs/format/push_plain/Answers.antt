use Rattle.std.proofs.{lemmas.{Grind.common_steps, Str.Pattern.split_once_first}, Common.arith}
use Rattle.words_core.proofs.FormatLemmas.{no_percent, percent_at}
use Rattle.words_core.proofs.format.push_plain.Goals as goal

pub loop-front-preserved : goal.loop-front-preserved
loop-front-preserved c = (c.without_percent-rest.utf8, grind (arith, common_steps, split_once_first, percent_at))

pub returns : goal.returns
returns c = grind (arith, common_steps, split_once_first, no_percent)
