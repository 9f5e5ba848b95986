use Rattle.scan_core.{specs.inner.Words.IsIn, proofs.Enterings.{led_by, never_led}}
use Rattle.scan_core.proofs.hops.is_within.Goals as goal

pub returns-then-not-is_open : goal.returns-then-not-is_open
returns-then-not-is_open c = λ t to f. absurd (never_led c.branch_of-branch.ensures c.is_open.ensures c.if-not-is_open.true f)

pub returns : goal.returns
returns c = λ t to f. led_by (IsIn c.args.words.now) c.branch_of-branch.ensures (c.has.ensures.0 c.if-not-has.false) (c.has-2.ensures.0 t) f
