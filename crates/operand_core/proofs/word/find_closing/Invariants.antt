use Rattle.std.proofs.Common.{◌≡◌, false, drop}
use Rattle.operand_core.{specs.Word.closing, proofs.AimLemmas.last_of}
use Rattle.operand_core.proofs.word.find_closing.Given as goal

abbrev pub invariant-loop-place : goal.invariant-loop-place
invariant-loop-place l = closing l.delimiter false l.text ≡ last_of l.last l.place (closing l.delimiter l.is_escaped (drop l.place l.text))
