use Rattle.std.proofs.Common.{◌≡◌, map, take}
use Rattle.words_core.specs.{Given.{asked_by, option_seen}, SplitWords.delim_by}
use Rattle.words_core.proofs.split_words.separator_in.Given as goal

abbrev pub invariant-loop-option : goal.invariant-loop-option
invariant-loop-option l = l.delim ≡ asked_by delim_by 10 (map option_seen (take l.option-index l.options))
