use Rattle.std.proofs.Common.{◌≡◌, map, take}
use Rattle.words_core.specs.{Given.{asked_by, option_seen}, SplitWords.{no_options, split_by}}
use Rattle.words_core.proofs.split_words.choose_split.Given as goal

abbrev pub invariant-loop-option : goal.invariant-loop-option
invariant-loop-option l = l.asked ≡ asked_by split_by no_options (map option_seen (take l.option-index l.options))
