use Rattle.scan_core.proofs.Shiftings.{HasLastStates}
use Rattle.scan_core.proofs.shift_table.word_of.Given as goal

abbrev pub invariant-loop-done : goal.invariant-loop-done
invariant-loop-done l = HasLastStates l.rows l.count l.byte l.done l.word
