use Rattle.std.proofs.Common.{◌≡◌, map, length}
use Rattle.mem_core.specs.MemInState.{breaks_in}
use Rattle.mem_core.proofs.mem_in.break_as_planned.Given as goal

abbrev pub invariant-loop-breaks : goal.invariant-loop-breaks
invariant-loop-breaks l = (l.source ≡ l.fn.source) × (breaks_in (map (λ b. (b.slot, b.at)) l.fn.breaks) l.slot l.fn.source ≡ breaks_in (map (λ b. (b.slot, b.at)) l.breaks) l.slot l.fn.source)

abbrev pub decreases-loop-breaks : goal.decreases-loop-breaks
decreases-loop-breaks l = length l.breaks
