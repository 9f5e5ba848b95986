use Rattle.std.proofs.Common.{◌<◌, ℕ}
use Rattle.scan_core.specs.inner.Closures.{IsPlain}
use Rattle.scan_core.proofs.closures.has_anchors.Given as goal

abbrev pub invariant-loop-number : goal.invariant-loop-number
invariant-loop-number l = (n : ℕ) → n < l.number → IsPlain l.nodes n
