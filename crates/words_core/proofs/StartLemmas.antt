-- Lemmas on a first word of `tail` that is a hyphen or a `+`, digits and letters.
use Rattle.std.proofs.{
  lemmas.Bool.{and_parts, Decides.nat_tests},
  Common.{◌≡◌, refl, ℕ, ◌-◌, ◌*◌, ◌^◌, ◌≤◌, ◌<◌, ◌==◌, true, false, arith, append-nil, List, [], ◌∷◌},
  Common.{◌++◌, length, Result, Ok, Err, subst},
  Math.Bool.{and-false, or-true},
}
use Rattle.std.specs.{Char.is_ascii_digit, List.{list_all, prefix_len}, Prelude.nat_lt}
use Rattle.seg_core.specs.{
  declared.{
    count.{CountFault.TheVariants.TooLarge, Sign.{Sign, TheVariants.{Plain, Plus}}},
    unit.Unit.TheVariants.Lines,
  },
  Count.{count_of, factor_of, is_number, sized, value_of},
}
use Rattle.ports_core.specs.declared.{calling.Calling.{Calling, TheVariants.OwnName}, fault.Fault.Fault}
use Rattle.words_core.specs.{
  declared.{choice.Kind.TheVariants.Amount, table.Letters.TheVariants.OfTail},
  Given.{Given, joined, nothing, one_option},
  Lettered.{are_known, are_of_tail, is_lettered, is_start, others, unit_in},
  Spelling.{Meaning, cluster, counted_with, foremost, reading, with_letters},
  Table.tail_table,
  Value.counted,
}
use Rattle.words_core.proofs.LetteredLemmas.{HasParts, parts}
use Rattle.words_core.specs.declared.choice.Choice.TheVariants as choice

pub sized_so : (sign : Sign) (amount : ℕ) → amount ≤ 2 ^ 63 - 1
    → sized sign amount ≡ Ok (record { sign = sign; amount = amount })
sized_so sign amount most = grind (arith, nat_tests)

pub sized_large : (amount : ℕ) → 2 ^ 63 - 1 < amount → sized Plus amount ≡ Err TooLarge
sized_large amount large = grind (arith, nat_tests)

not_empty : (digits : List ℕ) → is_number digits ≡ true → (length digits == 0) ≡ false
not_empty [] is = absurd (cc)
not_empty (digit ∷ digits) is = grind (arith, nat_tests)

-- Digits alone.

digits_alone : (digits : List ℕ) → is_number digits ≡ true → HasParts digits digits []
digits_alone digits number =
    let HasNone : List ℕ → Type 0 = λ text. HasParts text digits [] in
    subst HasNone (append-nil digits) (parts digits [] (and_parts (nat_lt 0 (length digits)) _ number).1 refl)

pub digits_start : (digits : List ℕ) → is_number digits ≡ true
    → foremost OwnName (tail_table OwnName) (Amount Lines) OfTail 1 (43 ∷ digits)
    ≡ counted_with 1 Lines (counted (sized Plus (value_of digits))) (reading nothing)
unfolding foremost
digits_start digits number =
    let is = digits_alone digits number in
    let one : value_of digits * 1 ≡ value_of digits = omega arith in
    rw (is.0, is.1, number, not_empty digits number, one) refl

pub digits_count : (digits : List ℕ) → is_number digits ≡ true → count_of digits ≡ sized Plain (value_of digits)
unfolding count_of factor_of
digits_count [] number = absurd (cc)
digits_count (digit ∷ digits) number =
    let all = (and_parts (nat_lt 0 (length (digit ∷ digits))) _ number).1 in
    let first = (and_parts (is_ascii_digit digit) _ all).0 in
    let no_plus : (digit == 43) ≡ false = grind (arith, nat_tests) in
    let no_minus : (digit == 45) ≡ false = grind (arith, nat_tests) in
    let is = digits_alone (digit ∷ digits) number in
    let one : value_of (digit ∷ digits) * 1 ≡ value_of (digit ∷ digits) = omega arith in
    rw (no_plus, no_minus, is.0, is.1, not_empty (digit ∷ digits) number, one) refl

-- Digits with letters. `tail` takes these letters, and those that stand for no unit give this.
abbrev pub Fit : Calling → List ℕ → Given → Type 0
Fit calling letters given = (prefix_len is_ascii_digit letters ≡ 0) × (are_known (tail_table calling) letters ≡ true)
    × (are_of_tail letters ≡ true) × (cluster (tail_table calling) 1 (others letters) ≡ reading given)

abbrev pub asks : Sign → List ℕ → ℕ → Given → Result Meaning Fault
asks sign letters amount given =
    reading (joined (one_option (choice.Amount (unit_in letters).0 (record { sign = sign; amount = amount })) 1) given)

module _ (calling : Calling) (digits letters : List ℕ) (amount : ℕ) {given : Given} (number : is_number digits ≡ true)
    (fit : Fit calling letters given) (many : value_of digits * (unit_in letters).1 ≡ amount)
    (most : amount ≤ 2 ^ 63 - 1) where
  both : (nat_lt 0 (length digits) ≡ true) × (list_all is_ascii_digit digits ≡ true)
  both = and_parts (nat_lt 0 (length digits)) _ number

  is : HasParts (digits ++ letters) digits letters
  is = parts digits letters both.1 fit.0

  asked_so : (sign : Sign)
      → with_letters (tail_table calling) sign 1 (digits ++ letters) ≡ asks sign letters amount given
  asked_so sign = rw (is.0, is.1, not_empty digits number, many, sized_so sign amount most, fit.3) refl

  pub letters_start : calling ≡ OwnName
      → foremost calling (tail_table calling) (Amount Lines) OfTail 1 (43 ∷ digits ++ letters)
      ≡ asks Plus letters amount given
  unfolding foremost
  letters_start own =
      let starts : is_start calling (tail_table calling) OfTail (digits ++ letters) ≡ true =
      rw (own, is.0, is.1, rw own at fit.1, fit.2, both.0, or-true (is_number (digits ++ letters))) refl in
      rw (starts, asked_so Plus) refl

  pub letters_last : is_number (digits ++ letters) ≡ false
      → foremost calling (tail_table calling) (Amount Lines) OfTail 1 (45 ∷ digits ++ letters)
      ≡ asks Plain letters amount given
  unfolding foremost
  letters_last no_number =
      let lettered : is_lettered (tail_table calling) OfTail (digits ++ letters) ≡ true =
      rw (is.0, is.1, fit.1, fit.2, both.0) refl in
      rw (no_number, lettered, asked_so Plain) refl

not_all : (digits : List ℕ) (letter : ℕ) (letters : List ℕ) → is_ascii_digit letter ≡ false
    → list_all is_ascii_digit (digits ++ letter ∷ letters) ≡ false
not_all [] letter letters other = rw other refl
not_all (digit ∷ digits) letter letters other = rw (not_all digits letter letters other, and-false (is_ascii_digit digit)) refl

pub no_number : (digits : List ℕ) (letter : ℕ) (letters : List ℕ) → is_ascii_digit letter ≡ false
    → is_number (digits ++ letter ∷ letters) ≡ false
no_number digits letter letters other =
    rw (not_all digits letter letters other, and-false (nat_lt 0 (length (digits ++ letter ∷ letters)))) refl
