use Rattle.std.proofs.Common.{◌≡◌, ◌<◌, take}
use Rattle.seg_core.specs.Line.{delimiters}
use Rattle.seg_core.proofs.line.reach_from.Given as goal

abbrev pub invariant-loop-i : goal.invariant-loop-i
invariant-loop-i l = record { counted : l.seen ≡ delimiters l.delim (take l.i l.bytes); fewer : l.seen < l.lines }
