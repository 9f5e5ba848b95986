use Rattle.std.proofs.Common.{◌+◌, ◌-◌, length}
use Rattle.split_core.specs.inner.Ahead.{Sees}
use Rattle.split_core.proofs.complete_lines.find.Given as goal

abbrev pub invariant-blocks-2 : goal.invariant-blocks-2
invariant-blocks-2 l = Sees l.delim l.text l.ahead

abbrev pub decreases-blocks-2 : goal.decreases-blocks-2
decreases-blocks-2 l = length l.text - (l.ahead.passed + l.ahead.width)
