use Rattle.std.{
  proofs.Common.{◌≡◌, sym, refl, arith, ℕ, zero, suc, Bool, true, false, eqb, ◌||◌, List, [], ◌∷◌, ◌++◌},
  proofs.Common.{drop, length},
  proofs.Math.Bool.or-true,
  proofs.lemmas.{Bool.Decides.Decides-eqb, List.Elements.Contains-append_right, Slice.Eq.starts_is},
  specs.List.{Contains, starts_with},
}
use Rattle.words_core.{specs.Table.begins_one, proofs.ValueLemmas.long_name}
use Rattle.words_core.proofs.laws.beginnings_are_of_one_option.Goals as goal

abbrev HasBeginning : List ℕ → List (List ℕ) → Type 0
HasBeginning start names = (rest : List ℕ) × Contains names (start ++ rest)

begins_by : (start name : List ℕ) (names : List (List ℕ)) (test : Bool) → starts_with eqb name start ≡ test
    → (test || begins_one names start) ≡ true
    → (begins_one names start ≡ true → HasBeginning start names) → HasBeginning start (name ∷ names)
begins_by start name names true same is more =
    (drop (length start) name, (zero, omega arith, (starts_is Decides-eqb name start true (sym same)).0 refl))
begins_by start name names false same is more =
    let found = more is in
    (found.0, Contains-append_right (name ∷ []) names (start ++ found.0) found.1)

begins : (start : List ℕ) (names : List (List ℕ)) → begins_one names start ≡ true → HasBeginning start names
begins start [] is = absurd (cc)
begins start (name ∷ names) is = begins_by start name names (starts_with eqb name start) refl is (begins start names)

found : (start : List ℕ) (names : List (List ℕ)) → HasBeginning start names → begins_one names start ≡ true
found start [] (rest, (place, within, is)) = absurd (omega arith)
found start (name ∷ names) (rest, (zero, within, is)) = rw ((starts_is Decides-eqb name start (starts_with eqb name start) refl).1 rest is) refl
found start (name ∷ names) (rest, (suc place, within, is)) =
    rw (found start names (rest, (place, omega arith, is))) (or-true (starts_with eqb name start))

pub returns-clause-begins : goal.returns-clause-begins
returns-clause-begins c row start = (begins start row.names, found start row.names)

pub returns-clause-told : goal.returns-clause-told
returns-clause-told c rows name kind words place is = rw (long_name name place is)
