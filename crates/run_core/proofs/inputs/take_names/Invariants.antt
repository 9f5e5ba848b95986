use Rattle.std.proofs.Common.{◌≡◌, length, map}
use Rattle.ports_core.specs.Inputs.{largest_piece}
use Rattle.run_core.{specs.RunSteps.world_of, proofs.InputLemmas.{Untouched, Walked}}
use Rattle.run_core.proofs.inputs.take_names.Given as goal

abbrev pub invariant-loop-left : goal.invariant-loop-left
invariant-loop-left g l = record {
  walked : Walked g.I.Inputs.visible g.O.Outs.visible (g.A.Adapter.task l.job.adapter.now)
      (world_of (g.I.Inputs.laid l.fn.inputs) (g.I.Inputs.sources l.fn.inputs)) (map (λ name. name.now) l.names)
      (map (λ name. name.now) l.left)
      l.progress (g.I.Inputs.laid l.inputs) (g.I.Inputs.sources l.inputs) (g.O.Outs.slots l.outs);
  untouched : Untouched (map (λ name. name.now) l.names) (map (λ name. name.now) l.left)
      (g.I.Inputs.sources l.fn.inputs) (g.I.Inputs.sources l.inputs);
  room : length l.buffer ≡ largest_piece;
}

abbrev pub decreases-loop-left : goal.decreases-loop-left
decreases-loop-left g l = length l.left
