use Rattle.std.proofs.Common.{◌≡◌, ◌<◌, ◌≤◌, ◌-◌, length, take}
use Rattle.seg_core.specs.Line.{delimiters}
use Rattle.seg_core.proofs.line.skip.Given as goal

abbrev pub invariant-loop-at : goal.invariant-loop-at
invariant-loop-at l = record { within : l.at ≤ length l.bytes; counted : l.count ≡ delimiters l.delim (take l.at l.bytes); fewer : l.count < l.lines }

abbrev pub decreases-loop-at : goal.decreases-loop-at
decreases-loop-at l = length l.bytes - l.at
