use Rattle.std.proofs.{
  Common.{◌≡◌, ℕ, ◌<◌, Bor, List, ◌++◌, Some, take, length, map, slice_get, get_or, ap},
  lemmas.Option.{slice_get-get_or, slice_get-map},
  Math.Seq.take-append_seam,
}
use Rattle.run_tests.proofs.args_tests.GivenArguments.argument.Goals as goal

-- what was copied to the front of the buffer is the word at that place
copied : (words : List (Bor (List ℕ))) (place : ℕ) (word : Bor (List ℕ)) (front rest : List ℕ) → place < length words
    → word ≡ get_or words place word → front ≡ word.now
    → Some (take (length word.now) (front ++ rest)) ≡ slice_get (map (λ word. word.now) words) place
copied words place word front rest within found is =
    let seen : Bor (List ℕ) → List ℕ = λ word. word.now in
    rw (is, take-append_seam, slice_get-map seen words place, slice_get-get_or words place word within)
    (ap (λ word. Some (seen word)) found)

pub returns : goal.returns
returns c =
    let found = c.in-Some.ensures.lookup in
    copied c.args.self.now.words.now c.args.place c.in-Some.word.now _ _ found.3.0 found.1
    c.copy_from_slice.ensures.after
