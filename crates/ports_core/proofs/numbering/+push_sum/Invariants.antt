use Rattle.ports_core.proofs.numbering.+push_sum.Given as goal

abbrev pub decreases-push_sum : goal.decreases-push_sum
decreases-push_sum l = l.digits
