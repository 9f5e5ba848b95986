use Rattle.std.proofs.{Common.arith, lemmas.Grind.common_steps}
use Rattle.operand_core.proofs.AimLemmas.{search_closed}
use Rattle.operand_core.proofs.word.read_search.Goals as goal

pub returns-in-Some-read_offset : goal.returns-in-Some-read_offset
returns-in-Some-read_offset c =
    search_closed c.args.delimiter c.args.text.now c.find_closing.ensures.is c.in-Some.is c.read_offset.ensures c.in-Some-read_offset.is

pub returns-in-None : goal.returns-in-None
returns-in-None c = grind (arith, common_steps)
