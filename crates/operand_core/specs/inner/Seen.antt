-- What contracts see of a word that was read.
use Rattle.std.specs.Prelude.{Result, Ok, Err}
use Rattle.operand_core.specs.{
  declared.{operand_fault.OperandFaultKind.OperandFaultKind, word.Word.Word},
  Word.{Spelling, number, search, again, wrong},
}
use Rattle.operand_core.specs.declared.word.Word.TheVariants as word

abbrev pub seen : Word → Spelling
seen (word.Number n) = number n
seen (word.Search delimiter text offset) = search delimiter text.now offset
seen (word.Again times) = again times

abbrev pub seen_in : Result Word OperandFaultKind → Spelling
seen_in (Ok word) = seen word
seen_in (Err fault) = wrong fault
