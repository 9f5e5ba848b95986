use Rattle.std.proofs.Common.{rules}
use Rattle.words_core.{
  specs.{SplitWords.{delim_by, no_options, split_by}},
  proofs.ChoiceLemmas.{last_decides},
}
use Rattle.words_core.proofs.laws.last_of_split_decides.Goals as goal

pub returns : goal.returns
returns c = record {
  alphabet = last_decides split_by (λ asked. asked.alphabet) (λ a o c. search rules) no_options;
  from = last_decides split_by (λ asked. asked.from) (λ a o c. search rules) no_options;
  width = last_decides split_by (λ asked. asked.width) (λ a o c. search rules) no_options;
  separator = last_decides delim_by (λ delim. delim) (λ a o c. search rules) 10;
  ending = last_decides split_by (λ asked. asked.ending) (λ a o c. search rules) no_options;
}
