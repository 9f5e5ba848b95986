use Rattle.std.proofs.Common.{rules}
use Rattle.words_core.{
  specs.{EndsWords.{ends_by, ten_lines}, Laws.amount_of, TailWords.unfollowed},
  proofs.ChoiceLemmas.{last_decides, tail_ends},
}
use Rattle.words_core.proofs.laws.last_of_ends_decides.Goals as goal

pub returns : goal.returns
returns c = record {
  counts = λ names. last_decides ends_by amount_of (λ a o c. search rules) (ten_lines names);
  headers = λ names. last_decides ends_by (λ asked. asked.headers) (λ a o c. search rules) (ten_lines names);
  tail = λ names. tail_ends (unfollowed (ten_lines names));
}
