use Rattle.std.proofs.Common.{◌≡◌, map, take}
use Rattle.words_core.specs.{Given.{asked_by, option_seen}, EndsWords.ends_by}
use Rattle.words_core.proofs.ends_words.settle_ends.Given as goal

abbrev pub invariant-loop-option : goal.invariant-loop-option
invariant-loop-option l = l.asked ≡ asked_by ends_by l.initial.asked (map option_seen (take l.option-index l.option-items))
