-- What these words ask for is what the table and the words' own definitions give, so that it is enough to compute it.
use Rattle.std.proofs.Common.{◌≡◌, ◌^◌, ◌-◌, [], ◌∷◌, None, Ok, codes, refl}
use Rattle.seg_core.specs.{
  Count.{count_of, factor_of},
  declared.{count.Sign.TheVariants.{Plain, Plus}, unit.Unit.TheVariants.Lines},
}
use Rattle.words_core.specs.{
  EndsWords.EndsAsked,
  Spelling.foremost,
  Table.tools,
  Words.settings_of,
  declared.settings.{Headers.TheVariants.ForSeveral, Settings.TheVariants.{Head, Tail}},
}
use Rattle.promises_core.specs.Promises.{counted}
use Rattle.ports_core.specs.declared.calling.Calling.TheVariants.{Cutters}
use Rattle.run_tests.proofs.law_tests.first_and_rest.Goals as goal

abbrev options : EndsAsked
options = record { unit = Lines; count = record { sign = Plain; amount = 10 }; headers = ForSeveral; delim = 10; names = codes "-" ∷ [] }

head_read : settings_of Cutters (codes "head" ∷ codes "-n" ∷ codes "2" ∷ []) ≡ Ok (Head (counted options Plain 2))
unfolding tools count_of factor_of foremost
head_read = refl

tail_read : settings_of Cutters (codes "tail" ∷ codes "-n" ∷ codes "+3" ∷ []) ≡ Ok (Tail (record { ends = counted options Plus 3; followed = None; looks = 2 ^ 63 - 1; pause = 1000; process = None }))
unfolding tools count_of factor_of foremost
tail_read = refl

pub returns : goal.returns
returns c = c.met.ensures options options None 2 (2 ^ 63 - 1) 1000 head_read tail_read (record { unit = refl; delim = λ lines. refl; bare = (refl, refl) }) refl refl
