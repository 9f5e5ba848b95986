use Rattle.std.proofs.Common.{◌≡◌, ◌-◌, ◌<◌, ◌≤◌, length}
use Rattle.ports_core.specs.{Source.source_at, Inputs.HasLooked}
use Rattle.ends_core.proofs.FindLemmas.{SeenFrom}
use Rattle.ends_core.proofs.find.find_lines.Given as goal

abbrev pub invariant-loop-end : goal.invariant-loop-end
invariant-loop-end g l = record {
  seen : SeenFrom g.I.Inputs.visible
      (source_at (g.I.Inputs.sources l.fn.inputs) l.slot).left l.delim l.fn.count l.wanted l.end l.len;
  some : 0 < l.wanted;
  within : l.end ≤ l.len - 1;
  looked : HasLooked (length l.fn.buffer) l.slot (g.I.Inputs.sources l.fn.inputs) (g.I.Inputs.sources l.inputs);
  laid : g.I.Inputs.laid l.inputs ≡ g.I.Inputs.laid l.fn.inputs;
  room : 0 < length l.buffer;
  size : length l.buffer ≤ length l.fn.buffer;
}

abbrev pub decreases-loop-end : goal.decreases-loop-end
decreases-loop-end g l = l.end
