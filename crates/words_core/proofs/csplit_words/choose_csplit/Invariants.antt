use Rattle.std.proofs.Common.{◌≡◌, map, take}
use Rattle.words_core.specs.{CsplitWords.chosen_by, inner.Choice.options_seen, Given.option_seen}
use Rattle.words_core.proofs.csplit_words.choose_csplit.Given as goal

abbrev pub invariant-loop-option : goal.invariant-loop-option
invariant-loop-option l = options_seen l.asked ≡ chosen_by (map option_seen (take l.option-index l.options))
