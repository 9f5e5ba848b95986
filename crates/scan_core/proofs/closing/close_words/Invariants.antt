use Rattle.scan_core.proofs.Closings.{Apart}
use Rattle.scan_core.proofs.closing.close_words.Given as goal

abbrev pub invariant-loop-at : goal.invariant-loop-at
invariant-loop-at l = Apart l.nodes l.closures l.fn.words l.words l.at
