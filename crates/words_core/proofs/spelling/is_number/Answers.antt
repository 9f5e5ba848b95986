use Rattle.std.{
  proofs.{
    Common.{rules, tests, arith},
    lemmas.{Bool.Decides.nat_tests, Iterator.{YieldsList-from_slice, Search.all_from_yields_List}},
  },
  specs.Char.is_ascii_digit,
}
use Rattle.words_core.proofs.spelling.is_number.Goals as goal

pub returns-then-not-is_empty : goal.returns-then-not-is_empty
returns-then-not-is_empty c =
    let all = all_from_yields_List is_ascii_digit _ _ c.all.result c.all.ensures.ran
    (YieldsList-from_slice c.args.text.now cc) (λ x b q k. search (rules, tests)) in
    grind (arith, nat_tests)
