use Rattle.std.proofs.Common.{filter}
use Rattle.words_core.{specs.SplitWords.{is_way, separator_in}, proofs.ChoiceLemmas.{few_ways, second_told, way_is}}
use Rattle.words_core.proofs.laws.one_way_at_most.Goals as goal

pub returns : goal.returns
returns c = record { accepted = λ options. few_ways (separator_in options) (filter is_way options); way = way_is; second = second_told }
