use Rattle.std.proofs.Common.{◌≡◌, false, map, take}
use Rattle.words_core.specs.{Given.{asked_by, option_seen}, TailWords.{retry_by, tail_by}}
use Rattle.words_core.proofs.tail_words.settle_tail.Given as goal

abbrev pub invariant-loop-option : goal.invariant-loop-option
invariant-loop-option l = record {
  asked : l.asked ≡ asked_by tail_by l.initial.asked (map option_seen (take l.option-index l.option-items));
  retry : l.retry ≡ asked_by retry_by false (map option_seen (take l.option-index l.option-items));
}
