use Rattle.operand_core.proofs.AimLemmas.{below_last, not_below}
use Rattle.operand_core.proofs.target.in_order.Goals as goal

pub returns-then-number-least : goal.returns-then-number-least
returns-then-number-least c = λ calling. below_last calling c.args.least c.args.number c.if-number-least.true

pub returns-else-number-least : goal.returns-else-number-least
returns-else-number-least c = λ calling. not_below calling c.args.least c.args.number c.if-number-least.false
