use Rattle.std.proofs.Common.{length, ◌≡◌}
use Rattle.ports_core.proofs.readers.Pipe.is_held.Given as goal

abbrev pub invariant-loop-place : goal.invariant-loop-place
invariant-loop-place g l = l.place-end ≡ length l.self.holders.items
