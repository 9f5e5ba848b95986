use Rattle.std.proofs.Common.{rules, false, refl}
use Rattle.words_core.{
  specs.{EndsWords.ten_lines, TailWords.{retry_by, tail_by, unfollowed}, Laws.retries},
  proofs.ChoiceLemmas.{last_decides, so_where_given},
}
use Rattle.words_core.proofs.laws.last_of_tail_decides.Goals as goal

pub returns : goal.returns
returns c = record {
  followed = λ names. last_decides tail_by (λ asked. asked.followed) (λ a o c. search rules) (unfollowed (ten_lines names));
  looks = λ names. last_decides tail_by (λ asked. asked.looks) (λ a o c. search rules) (unfollowed (ten_lines names));
  pause = λ names. last_decides tail_by (λ asked. asked.pause) (λ a o c. search rules) (unfollowed (ten_lines names));
  process = λ names. last_decides tail_by (λ asked. asked.process) (λ a o c. search rules) (unfollowed (ten_lines names));
  retry = so_where_given retry_by (λ retry. retry) retries (λ a c. search rules) false refl;
}
