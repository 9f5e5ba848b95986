use Rattle.std.{
  proofs.{
    Common.{◌≡◌, ℕ, ◌<◌, ◌≤◌, List, length, get_or, true, sym, ◌∙◌, arith},
    lemmas.{Bool.Decides.nat_tests, Str.IsCharBoundary-after_ascii},
  },
  specs.Char.is_ascii,
}
use Rattle.words_core.proofs.spelling.first_letter.Goals as goal

pub range_from-requires : goal.range_from-requires
range_from-requires c = λ _.
    let HasOne : List ℕ → Type 0 = λ bytes. 1 ≤ length bytes in
    let IsLow : List ℕ → Type 0 = λ bytes. get_or bytes 0 0 < 128 in
    let ascii : is_ascii (get_or c.as_bytes.result.now 0 0) ≡ true = sym c.is_ascii.ensures ∙ c.if-is_ascii.true in
    let low : get_or c.as_bytes.result.now 0 0 < 128 = grind (arith, nat_tests) in
    IsCharBoundary-after_ascii c.args.text.now 0 c.utf8.text (rw c.as_bytes.ensures.value at
    c.in-len1-up.len_at_least) (rw c.as_bytes.ensures.value at low)
