use Rattle.std.proofs.Common.{◌≡◌, map, drop}
use Rattle.words_core.specs.{Given.option_seen, Words.topic_in}
use Rattle.words_core.proofs.words.topic_in.Given as goal

abbrev pub invariant-loop-option : goal.invariant-loop-option
invariant-loop-option l = topic_in (map option_seen (drop l.option-index l.options)) ≡ topic_in (map option_seen l.options)
