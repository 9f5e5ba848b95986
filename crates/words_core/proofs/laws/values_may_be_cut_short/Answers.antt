use Rattle.words_core.{specs.Value.{follow_values, on_broken_values}, proofs.ShortLemmas.are_cut_short}
use Rattle.words_core.proofs.laws.values_may_be_cut_short.Goals as goal

pub returns : goal.returns
returns c = record { follow = are_cut_short follow_values; on_broken = are_cut_short on_broken_values }
