use Rattle.std.proofs.Common.{◌≡◌, ◌+◌, ◌<◌, ◌≤◌, length, drop}
use Rattle.seg_core.specs.{Line.{delimiters, first_lines}, Blocks.text_of}
use Rattle.seg_core.proofs.line_blocks.reach_in.Given as goal

abbrev pub invariant-loop-i : goal.invariant-loop-i
invariant-loop-i l = record {
  some : 0 < l.left;
  enough : l.left ≤ delimiters l.delim (text_of (drop l.i l.queue.items));
  place : length (first_lines l.delim l.lines (text_of l.queue.items))
      ≡ l.passed + length (first_lines l.delim l.left (text_of (drop l.i l.queue.items)));
  fits : l.passed + length (text_of (drop l.i l.queue.items)) ≡ length (text_of l.queue.items);
}
