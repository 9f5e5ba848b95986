use Rattle.std.proofs.Common.{◌≡◌, ◌≤◌, take}
use Rattle.seg_core.specs.Line.{delimiters}
use Rattle.seg_core.proofs.line.count_one_by_one.Given as goal

abbrev pub invariant-loop-byte : goal.invariant-loop-byte
invariant-loop-byte l = record { counted : l.count ≡ delimiters l.delim (take l.byte-index l.bytes); few : l.count ≤ l.byte-index }
