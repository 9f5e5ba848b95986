use Rattle.std.{proofs.Common.{◌≡◌, ◌≤◌, ◌<◌, ◌-◌, ◌^◌, ℕ, List, length, true, IsTrue}, specs.List.concat}
use Rattle.ports_core.{
  specs.{Source.{source_at, is_readable}, Inputs.KeepsOthers},
  proofs.InputsLemmas.HasRead,
}
use Rattle.tee_core.specs.{Run.{Copied, GaveLast, standings_of}, inner.Steps.run_for}
use Rattle.tee_core.proofs.run.copy_pieces.Given as goal

abbrev pub invariant-pieces : goal.invariant-pieces
invariant-pieces g l = record {
  pieces : List (List ℕ);
  copied : Copied (run_for g.O.Outs.visible l.job) pieces (g.O.Outs.slots l.outs);
  known : l.known ≡ standings_of (g.O.Outs.slots l.outs);
  same : l.tee ≡ l.fn.tee;
  counted : l.fed ≡ length (concat pieces);
  small : l.fed < 2 ^ 63;
  readable : IsTrue (is_readable (g.I.Inputs.sources l.inputs) 0);
  others : KeepsOthers 0 (g.I.Inputs.sources l.fn.inputs) (g.I.Inputs.sources l.inputs);
  read : g.I.Inputs.visible ≡ true
      → HasRead (source_at (g.I.Inputs.sources l.fn.inputs) 0).left (concat pieces) 0 (g.I.Inputs.sources l.inputs);
  last : g.I.Inputs.visible ≡ true → GaveLast pieces (source_at (g.I.Inputs.sources l.inputs) 0);
  reads : (source_at (g.I.Inputs.sources l.inputs) 0).reads ≡ length pieces;
  asked : (source_at (g.I.Inputs.sources l.fn.inputs) 0).asked ≤ length l.fn.buffer
      → (source_at (g.I.Inputs.sources l.inputs) 0).asked ≤ length l.fn.buffer;
}

abbrev pub decreases-pieces : goal.decreases-pieces
decreases-pieces g l = 2 ^ 63 - l.fed
