use Rattle.std.proofs.Common.{rules}
use Rattle.ports_core.specs.declared.calling.Calling.TheVariants.{Cutters, OwnName}
use Rattle.words_core.{specs.{TeeWords.{fresh, tee_by}}, proofs.ChoiceLemmas.{last_decides}}
use Rattle.words_core.proofs.laws.last_of_tee_decides.Goals as goal

pub returns : goal.returns
returns c = record {
  on_broken = λ names. last_decides tee_by (λ asked. asked.on_broken) (λ a o c. search rules) (fresh Cutters names);
  own_name = λ names. last_decides tee_by (λ asked. asked.on_broken) (λ a o c. search rules) (fresh OwnName names);
}
