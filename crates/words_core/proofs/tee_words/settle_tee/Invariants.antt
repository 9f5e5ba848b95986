use Rattle.std.proofs.Common.{◌≡◌, map, take}
use Rattle.words_core.specs.{Given.{asked_by, option_seen}, TeeWords.tee_by}
use Rattle.words_core.proofs.tee_words.settle_tee.Given as goal

abbrev pub invariant-loop-option : goal.invariant-loop-option
invariant-loop-option l = l.asked ≡ asked_by tee_by l.initial.asked (map option_seen (take l.option-index l.option-items))
