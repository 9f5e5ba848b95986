use Rattle.scan_core.proofs.{Closings.both_met, Enterings.never_led}
use Rattle.scan_core.proofs.hops.add_hops.Goals as goal

pub returns-then-not-is_open-clause-met : goal.returns-then-not-is_open-clause-met
returns-then-not-is_open-clause-met c = λ to f. absurd (never_led c.branch_of-branch.ensures c.is_open.ensures c.if-not-is_open.true f)

pub returns-clause-met : goal.returns-clause-met
returns-clause-met c = both_met _ _ _ _ c.branch_of-branch.ensures c.in_ok-add_hop.ensures.met c.add_hop-2.ensures.grown c.add_hop-2.ensures.met
