use Rattle.std.proofs.Common.{◌≡◌, length}
use Rattle.scan_core.specs.inner.{Each.AreEach, Table.{IsState, no_state}, Words.width}
use Rattle.scan_core.proofs.build.states_of.Given as goal

abbrev pub invariant-loop-state : goal.invariant-loop-state
invariant-loop-state l = record {
  size : length l.words ≡ width l.nodes;
  so_far : AreEach no_state (IsState l.nodes l.sets l.rows) l.state l.states.items;
}
