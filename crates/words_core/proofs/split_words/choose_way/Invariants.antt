use Rattle.std.proofs.Common.{◌≡◌, map, length, filter}
use Rattle.words_core.{specs.{Given.option_seen, SplitWords.{is_way, only_way}}, proofs.ChoiceLemmas.way_then}
use Rattle.words_core.proofs.split_words.choose_way.Given as goal

abbrev pub invariant-loop-left : goal.invariant-loop-left
invariant-loop-left l = way_then l.delim l.way (filter is_way (map option_seen l.left)) ≡ only_way l.delim (filter is_way (map option_seen l.options))

abbrev pub decreases-loop-left : goal.decreases-loop-left
decreases-loop-left l = length l.left
