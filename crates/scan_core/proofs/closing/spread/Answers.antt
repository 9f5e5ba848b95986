use Rattle.scan_core.proofs.Closings.{spreads_again, spreads_plainly}
use Rattle.scan_core.proofs.closing.spread.Goals as goal

pub returns-then-not-closures : goal.returns-then-not-closures
returns-then-not-closures c = spreads_plainly c.spread_anywhere.ensures (c.requires.closures.plain c.if-not-closures.true)

pub returns-then-at_first : goal.returns-then-at_first
returns-then-at_first c = spreads_again c.spread_anywhere.ensures c.spread_all.ensures
