use Rattle.scan_core.proofs.{Enterings.never_led, Insides.{both_led, none_led}}
use Rattle.scan_core.proofs.closures.targets.Goals as goal

pub returns-then-not-is_open : goal.returns-then-not-is_open
returns-then-not-is_open c = λ to h. none_led _ _ (never_led c.branch_of-branch.ensures c.is_open.ensures c.if-not-is_open.true)

pub returns : goal.returns
returns c = λ to h. both_led _ _ _ c.branch_of-branch.ensures (c.is_open.ensures.0 c.if-not-is_open.false) (c.bit_in.ensures to h) (c.bit_in-2.ensures to h)
