use Rattle.std.proofs.Common.{◌≡◌, ◌≤◌, ◌-◌, ◌^◌, ℕ, List, length, true, IsTrue}
use Rattle.ports_core.{specs.{Source.{source_at, is_readable}, Inputs.KeepsOthers}, proofs.InputsLemmas.HasRead}
use Rattle.engine_core.specs.Work.{IsNeeded, IsSpare}
use Rattle.run_core.proofs.FeedingLemmas.{Feeds, HasTaken}
use Rattle.run_core.proofs.feeding.feed_input.Given as goal

abbrev pub invariant-pieces : goal.invariant-pieces
invariant-pieces g l = record {
  fed : List ℕ;
  feeds : Feeds g.S.Stage.terms g.O.Outs.visible l.fn.engine l.engine fed (g.O.Outs.slots l.fn.outs)
      (g.O.Outs.slots l.outs);
  readable : IsTrue (is_readable (g.I.Inputs.sources l.inputs) l.slot);
  others : KeepsOthers l.slot (g.I.Inputs.sources l.fn.inputs) (g.I.Inputs.sources l.inputs);
  read : g.I.Inputs.visible ≡ true
      → HasRead (source_at (g.I.Inputs.sources l.fn.inputs) l.slot).left fed l.slot (g.I.Inputs.sources l.inputs);
  took : g.I.Inputs.visible ≡ true → HasTaken fed l.slot (g.I.Inputs.sources l.fn.inputs) (g.I.Inputs.sources l.inputs);
  last : g.I.Inputs.visible ≡ true
      → IsNeeded (g.S.Stage.terms.work l.fn.engine.stage).is_complete
      (source_at (g.I.Inputs.sources l.inputs) l.slot).last fed;
  few : l.slot ≡ 0 → (n : ℕ) → IsSpare (g.S.Stage.terms.work l.fn.engine.stage) fed n
      → n ≤ (g.S.Stage.terms.work l.fn.engine.stage).ahead;
  room : length l.buffer ≡ length l.fn.buffer;
  needed : IsNeeded (g.S.Stage.terms.work l.fn.engine.stage).is_complete (length l.fn.buffer) fed;
  asked : (source_at (g.I.Inputs.sources l.fn.inputs) l.slot).asked ≤ length l.fn.buffer
      → (source_at (g.I.Inputs.sources l.inputs) l.slot).asked ≤ length l.fn.buffer;
  laid : g.I.Inputs.laid l.inputs ≡ g.I.Inputs.laid l.fn.inputs;
  ready : g.S.Stage.terms.Ready l.engine.stage (g.O.Outs.slots l.outs);
}

abbrev pub decreases-pieces : goal.decreases-pieces
decreases-pieces g l = 2 ^ 63 - l.engine.fed
