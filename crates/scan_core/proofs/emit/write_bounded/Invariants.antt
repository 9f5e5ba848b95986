use Rattle.std.proofs.Common.{◌≡◌, ◌++◌, List, length, reverse}
use Rattle.scan_core.specs.{declared.node.Node.Node, Code.up_to}
use Rattle.scan_core.proofs.emit.write_bounded.Given as goal

abbrev pub invariant-loop-more : goal.invariant-loop-more
invariant-loop-more l = record {
  grown : (more : List Node) × (l.nodes.items ≡ l.fn.nodes.items ++ more);
  written : (before code : List Node) → length before ≡ l.start → l.fn.nodes.items ≡ before ++ reverse code
      → l.nodes.items ≡ before ++ reverse (up_to l._more code);
}
