use Rattle.scan_core.proofs.Countings.{Passing}
use Rattle.scan_core.proofs.words.pass.Given as goal

abbrev pub invariant-loop-at : goal.invariant-loop-at
invariant-loop-at l = Passing l.nodes l.byte l.base l.fn.words l.words l.at l.carry
