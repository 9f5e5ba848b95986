use Rattle.std.proofs.Common.{◌≡◌, ◌<◌, ℕ, List, Bool}
use Rattle.bre_core.specs.ByteSet.{has}
use Rattle.scan_core.specs.{declared.node.Node.TheVariants.Take, Code.At}
use Rattle.scan_core.proofs.build.are_alike.Given as goal

abbrev pub invariant-loop-number : goal.invariant-loop-number
invariant-loop-number l = (n : ℕ) (bytes : List Bool) → n < l.number → At l.nodes n (Take bytes) → has bytes l.one ≡ has bytes l.other
