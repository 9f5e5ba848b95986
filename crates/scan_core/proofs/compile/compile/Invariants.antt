use Rattle.std.proofs.Common.{◌+◌, ◌≤◌, [], None, length, drop}
use Rattle.scan_core.specs.{declared.compile.Compiling.Compiling, inner.Compiling.{AreBegun, TakesAll, IsNow, depth_in}}
use Rattle.scan_core.proofs.compile.compile.Given as goal

abbrev pub invariant-loop-place : goal.invariant-loop-place
invariant-loop-place l = record {
  begun : AreBegun l.compiling;
  depth : depth_in l.compiling.passing + l.place ≤ length l.tokens;
  branch : (first : Compiling) × IsNow [] [] None first × TakesAll first (drop l.place l.tokens) l.compiling;
}
