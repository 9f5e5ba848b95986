use Rattle.std.proofs.Common.{◌≡◌, length}
use Rattle.mem_core.specs.MemInState.{laid_at}
use Rattle.mem_core.proofs.mem_in.find.Given as goal

abbrev pub invariant-loop-files : goal.invariant-loop-files
invariant-loop-files l = laid_at l.fn.files l.name ≡ laid_at l.files l.name

abbrev pub decreases-loop-files : goal.decreases-loop-files
decreases-loop-files l = length l.files
