use Rattle.std.proofs.Common.{◌≡◌, ◌<◌, ℕ, IsTrue, true}
use Rattle.bre_core.specs.ByteSet.{has}
use Rattle.scan_core.specs.inner.Needles.{is_among}
use Rattle.scan_core.proofs.few_bytes.FewBytes.of.Given as goal

abbrev pub invariant-loop-byte : goal.invariant-loop-byte
invariant-loop-byte l = (other : ℕ) → other < l.byte → IsTrue (has l.set other) → is_among l.few other ≡ true
