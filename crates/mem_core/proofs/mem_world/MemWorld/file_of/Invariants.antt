use Rattle.std.proofs.Common.{◌≡◌, length}
use Rattle.watch_core.specs.Edits.{led_to}
use Rattle.mem_core.proofs.mem_world.MemWorld.file_of.Given as goal

abbrev pub invariant-loop-links : goal.invariant-loop-links
invariant-loop-links l = led_to l.self.links l.name ≡ led_to l.links l.name

abbrev pub decreases-loop-links : goal.decreases-loop-links
decreases-loop-links l = length l.links
