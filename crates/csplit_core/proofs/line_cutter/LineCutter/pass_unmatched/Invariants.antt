use Rattle.std.proofs.Common.{length}
use Rattle.csplit_core.{specs.Cutter.seen, proofs.TryLemmas.Unmatched}
use Rattle.csplit_core.proofs.line_cutter.LineCutter.pass_unmatched.Given as goal

abbrev pub invariant-loop-end : goal.invariant-loop-end
invariant-loop-end l = Unmatched (seen l.fn.self) l.fn.text l.left (seen l.self)

abbrev pub decreases-loop-end : goal.decreases-loop-end
decreases-loop-end l = length l.left
