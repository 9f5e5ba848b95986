use Rattle.std.proofs.Common.{◌≡◌, ◌≤◌, ◌*◌}
use Rattle.scan_core.proofs.Countings.{ones_below}
use Rattle.scan_core.proofs.words.positions.Given as goal

abbrev pub invariant-loop-at : goal.invariant-loop-at
invariant-loop-at l = record {
  exact : l.positions ≡ ones_below l.words l.counts l.at;
  most : l.positions ≤ 64 * l.at;
}
