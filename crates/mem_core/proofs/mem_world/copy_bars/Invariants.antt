use Rattle.std.proofs.Common.{◌≡◌, take}
use Rattle.mem_core.proofs.mem_world.copy_bars.Given as goal

abbrev pub invariant-loop-bar : goal.invariant-loop-bar
invariant-loop-bar l = l.copies.items ≡ take l.bar-index l.bars
