use Rattle.std.proofs.{Common.arith, lemmas.Grind.common_steps}
use Rattle.split_core.{
  specs.laws.{ShareLaws.{parts_on, settled_on}},
  proofs.SectionLemmas.{joined_parts, settled_all, waiting_few},
}
use Rattle.split_core.proofs.laws.parts_go_on.Goals as goal
use Rattle.split_core.specs.laws.LimitLaws.{settled_then_waiting}

pub returns : goal.returns
returns c = grind (arith, common_steps, parts_on, settled_on, joined_parts, settled_then_waiting, settled_all, waiting_few)
