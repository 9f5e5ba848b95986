use Rattle.std.proofs.Common.{◌≡◌, length}
use Rattle.watch_core.specs.Edits.{is_one}
use Rattle.mem_core.proofs.mem_world.MemWorld.has_ended.Given as goal

abbrev pub invariant-loop-left : goal.invariant-loop-left
invariant-loop-left l = is_one l.process l.self.ended ≡ is_one l.process l.left

abbrev pub decreases-loop-left : goal.decreases-loop-left
decreases-loop-left l = length l.left
