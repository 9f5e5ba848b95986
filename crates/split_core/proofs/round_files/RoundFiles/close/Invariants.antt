use Rattle.split_core.proofs.FilesLemmas.{Closing}
use Rattle.split_core.proofs.round_files.RoundFiles.close.Given as goal

abbrev pub invariant-loop-place : goal.invariant-loop-place
invariant-loop-place g l = Closing g.O.Outs.visible l.fn.self l.place (g.O.Outs.slots l.fn.outs) (g.O.Outs.slots l.outs)
