use Rattle.std.proofs.Common.{◌≡◌, None, length}
use Rattle.scan_core.specs.{declared.compile.Compiling.Compiling, inner.Compiling.{AreBegun, Finishes}}
use Rattle.scan_core.proofs.compile.Compiling.finish.Given as goal

abbrev pub invariant-loop-duplication : goal.invariant-loop-duplication
invariant-loop-duplication l = record {
  so_far : (final : Compiling) → Finishes l.self.nodes.items l.self.pending.items final
      → Finishes l.initial.self.nodes.items l.initial.self.pending.items final;
  begun : AreBegun l.self;
  passing : l.self.passing ≡ None;
}

abbrev pub decreases-loop-duplication : goal.decreases-loop-duplication
decreases-loop-duplication l = length l.self.pending.items
