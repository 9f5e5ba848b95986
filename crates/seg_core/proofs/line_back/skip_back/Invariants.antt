use Rattle.std.proofs.Common.{◌≡◌, ◌<◌, ◌≤◌, length, drop}
use Rattle.seg_core.specs.Line.{delimiters}
use Rattle.seg_core.proofs.line_back.skip_back.Given as goal

abbrev pub invariant-loop-end : goal.invariant-loop-end
invariant-loop-end l = record { within : l.end ≤ length l.bytes; counted : l.count ≡ delimiters l.delim (drop l.end l.bytes); fewer : l.count < l.wanted }

abbrev pub decreases-loop-end : goal.decreases-loop-end
decreases-loop-end l = l.end
