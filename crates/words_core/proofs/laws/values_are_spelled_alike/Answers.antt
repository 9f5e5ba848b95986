use Rattle.words_core.proofs.ValueLemmas.{value_attached, value_after_equals, value_after_letter, value_after_name}
use Rattle.words_core.proofs.laws.values_are_spelled_alike.Goals as goal

pub returns : goal.returns
returns c = record {
  attached = value_attached;
  after_letter = value_after_letter;
  after_equals = value_after_equals;
  after_name = value_after_name;
}
