use Rattle.std.proofs.Common.{◌%◌}
use Rattle.scan_core.specs.inner.{Each.AreEach, Shifts.{IsWeight, IsWord}}
use Rattle.scan_core.proofs.shift_table.shifts_of.Given as goal

abbrev pub invariant-loop-byte : goal.invariant-loop-byte
invariant-loop-byte l = record {
  words : AreEach 0 (IsWord l.rows l.count) l.byte l.words.items;
  weights : AreEach 0 (λ low. IsWeight l.noted (low % 64)) l.byte l.weights.items;
}
