use Rattle.std.proofs.Common.{[], get_or}
use Rattle.words_core.proofs.FormatLemmas.{first_and_rest}
use Rattle.words_core.proofs.format.read_letter.Goals as goal

pub returns-clause-after : goal.returns-clause-after
returns-clause-after c = ([], get_or c.args.text.now 0 0, c.in_ok-base_of.ensures.ascii, first_and_rest c.args.text.now c.in-len1-up.len_at_least)
