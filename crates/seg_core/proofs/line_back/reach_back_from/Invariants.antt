use Rattle.std.proofs.Common.{◌≡◌, ◌<◌, ◌≤◌, length, drop}
use Rattle.seg_core.specs.Line.{delimiters}
use Rattle.seg_core.proofs.line_back.reach_back_from.Given as goal

abbrev pub invariant-loop-at : goal.invariant-loop-at
invariant-loop-at l = record { within : l.at ≤ length l.bytes; counted : l.seen ≡ delimiters l.delim (drop l.at l.bytes); fewer : l.seen < l.wanted }

abbrev pub decreases-loop-at : goal.decreases-loop-at
decreases-loop-at l = l.at
