use Rattle.std.proofs.Common.{[], Ok}
use Rattle.ports_core.specs.Slot.{effect}
use Rattle.split_core.specs.inner.Sharing.{Adds}
use Rattle.split_core.proofs.round_files.RoundFiles.open_first.Given as goal

abbrev pub invariant-loop-place : goal.invariant-loop-place
invariant-loop-place g l = Adds l.fn.self l.self (λ place. []) 0 l.place (effect g.O.Outs.visible (g.O.Outs.slots l.fn.outs) (g.O.Outs.slots l.outs)) (Ok tt)
