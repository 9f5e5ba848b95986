use Rattle.std.proofs.Common.{◌≡◌, length}
use Rattle.watch_core.specs.Edits.{is_barred_in}
use Rattle.mem_core.proofs.mem_world.MemWorld.is_barred.Given as goal

abbrev pub invariant-loop-bars : goal.invariant-loop-bars
invariant-loop-bars l = is_barred_in l.self.bars l.name ≡ is_barred_in l.bars l.name

abbrev pub decreases-loop-bars : goal.decreases-loop-bars
decreases-loop-bars l = length l.bars
