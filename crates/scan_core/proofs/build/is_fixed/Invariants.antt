use Rattle.std.proofs.Common.{◌≡◌, ◌<◌, ℕ}
use Rattle.scan_core.specs.inner.Table.{entry}
use Rattle.scan_core.proofs.build.is_fixed.Given as goal

abbrev pub invariant-loop-byte : goal.invariant-loop-byte
invariant-loop-byte l = (at : ℕ) → at < l.byte → entry l.rows l.state at ≡ l.state
