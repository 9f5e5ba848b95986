use Rattle.std.proofs.Common.{◌≡◌, map, length}
use Rattle.watch_core.specs.Edits.{edited_by}
use Rattle.mem_core.specs.MemWatchState.{edit_of}
use Rattle.mem_core.proofs.mem_world.MemWorld.edit_all.Given as goal

abbrev pub invariant-loop-left : goal.invariant-loop-left
invariant-loop-left l = edited_by (map edit_of l.edits) l.fn.self ≡ edited_by (map edit_of l.left) l.self

abbrev pub decreases-loop-left : goal.decreases-loop-left
decreases-loop-left l = length l.left
