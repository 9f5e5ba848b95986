use Rattle.std.proofs.Common.{◌-◌, ◌^◌}
use Rattle.scan_core.proofs.Insides.{Insiding}
use Rattle.scan_core.proofs.closures.inside_of.Given as goal

abbrev pub invariant-bits : goal.invariant-bits
invariant-bits l = Insiding l.nodes l.at l.word l.all l.done

abbrev pub decreases-bits : goal.decreases-bits
decreases-bits l = 2 ^ 64 - l.done
