use Rattle.std.proofs.Common.{rules, append-nil, refl}
use Rattle.words_core.{
  specs.{CsplitWords.{chosen_by, csplit_by, plain}},
  proofs.ChoiceLemmas.{last_decides},
}
use Rattle.words_core.proofs.laws.last_of_csplit_decides.Goals as goal

pub returns : goal.returns
returns c = record {
  prefix = last_decides csplit_by (λ asked. asked.prefix.now) (λ a o c. search rules) plain;
  digits = last_decides csplit_by (λ asked. asked.digits) (λ a o c. search rules) plain;
  format = last_decides csplit_by (λ asked. asked.format) (λ a o c. search rules) plain;
  plain = λ options none. rw none
      (record { begins = append-nil (chosen_by options).prefix.now; number = refl; ends = refl });
  formatted = λ options format some. rw some (record { begins = refl; number = refl; ends = refl });
}
