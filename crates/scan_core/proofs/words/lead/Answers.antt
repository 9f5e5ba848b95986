use Rattle.scan_core.proofs.{Enterings.never_led, Insides.{grows_none, grows_way}}
use Rattle.scan_core.proofs.words.lead.Goals as goal

pub returns-then-not-is_open : goal.returns-then-not-is_open
returns-then-not-is_open c =
    grows_none (λ to f. absurd (never_led c.branch_of-branch.ensures c.is_open.ensures c.if-not-is_open.true f))

pub returns : goal.returns
returns c = grows_way c.branch_of-branch.ensures (c.is_open.ensures.0 c.if-not-is_open.false) c.enter-on.ensures c.enter.ensures
