use Rattle.std.proofs.Common.{◌≡◌, ◌≤◌, ◌-◌, ◌++◌, length, take, drop}
use Rattle.seg_core.proofs.line_window.LineWindow.take_front.Given as goal

abbrev pub invariant-loop-at : goal.invariant-loop-at
invariant-loop-at l = record {
  most : l.self.most ≡ l.fn.self.most;
  delim : l.self.delim ≡ l.fn.self.delim;
  within : l.at ≤ length l.fn.out;
  there : l.at ≤ length l.fn.self.held;
  held : l.self.held ≡ drop l.at l.fn.self.held;
  out : l.out ≡ take l.at l.fn.self.held ++ drop l.at l.fn.out;
}

abbrev pub decreases-loop-at : goal.decreases-loop-at
decreases-loop-at l = length l.fn.out - l.at
