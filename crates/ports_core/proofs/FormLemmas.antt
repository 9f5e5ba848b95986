-- How many digits a number has, and what is read of a number in a form.
use Rattle.std.proofs.{
  Common.{◌≡◌, ℕ, ◌+◌, ◌-◌, ◌*◌, ◌/◌, ◌%◌, ◌^◌, ◌<◌, ◌≤◌, ◌==◌, ◌||◌, ◌&&◌, zero, suc, not},
  Common.{nat_lt, Bool, true, false, cond, List, [], ◌∷◌, ◌++◌, length, filter, replicate, inl, inr, refl, sym, ◌∙◌},
  Common.{ap, arith, add-mul, mul_assoc, append-nil, mul-le-mul, pow-suc, div-add-mod', mod-lt, div-lt_iff_lt-mul},
  Math.Nat.{pow-le-pow_right, pow-succ', pow-zero},
  lemmas.{Grind.common_steps, List.Elements.filter-append, Bool.{cases_lt, cond_both, ltb-false, ltb-true}},
}
use Rattle.std.specs.{Str.Parse.{digits_value, digits_value_after}, Char.digit_value}
use Rattle.ports_core.specs.{
  declared.{
    alphabet.Alphabet.Alphabet,
    form.{Base.Base, Filling.{Filling, TheVariants.{Zeros, BlanksBefore, BlanksAfter}}, Form.Form},
  },
  Name.{radix, character, written, alphabet_of, digits_up_to, digit_count, digits_written, filled, formatted},
  Name.{hex_mark, marked},
}
use Rattle.ports_core.proofs.CounterLemmas.{many_characters, power_positive}
use Rattle.ports_core.specs.declared.form.Base.TheVariants as base

-- how many digits a number has

-- the digits that are found are enough, if the bound is enough
enough_up_to : (alphabet : Alphabet) (number bound : ℕ) → number < radix alphabet ^ bound
    → number < radix alphabet ^ digits_up_to alphabet number bound
enough_up_to alphabet number zero small = small
enough_up_to alphabet number (suc bound) small =
    cond_both (nat_lt number (radix alphabet ^ bound)) (digits_up_to alphabet number bound) (suc bound) (λ count. number < radix alphabet ^ count)
    (λ less. enough_up_to _ _ bound (ltb-true _ _ less)) (λ more. small)

-- no fewer digits than those that are found are enough
pub least_up_to : (alphabet : Alphabet) (number bound count : ℕ) → number < radix alphabet ^ count
    → digits_up_to alphabet number bound ≤ count
least_up_to alphabet number zero count small = omega arith
least_up_to alphabet number (suc bound) count small =
    cond_both (nat_lt number (radix alphabet ^ bound)) (digits_up_to alphabet number bound) (suc bound) (λ digits. digits ≤ count)
    (λ less. least_up_to _ _ bound _ small)
    (λ more. elim (cases_lt bound count) [
      | inl less ↦ less
      | inr reached ↦
          let some : 0 < radix alphabet = grind (arith, common_steps) in
          absurd (omega (arith, ltb-false _ _ more, pow-le-pow_right some reached))
    ])

-- a number is below the radix to the power of this number
below_power : (alphabet : Alphabet) (number : ℕ) → number < radix alphabet ^ number
below_power alphabet zero = power_positive _ 0
below_power alphabet (suc number) =
    let half : suc number * 2 ≤ radix alphabet ^ number * radix alphabet = mul-le-mul
    (below_power _ number) (omega (arith, many_characters alphabet)) in
    rw pow-suc (omega arith)

pub digits_enough : (alphabet : Alphabet) (number : ℕ) → number < radix alphabet ^ digit_count alphabet number
digits_enough alphabet number = grind (arith, enough_up_to, below_power)

pub digits_needed : (alphabet : Alphabet) (number count : ℕ) → number < radix alphabet ^ count
    → digit_count alphabet number ≤ count
digits_needed alphabet number count small = grind (arith, least_up_to)

pub counted : (alphabet : Alphabet) {number log count : ℕ} → radix alphabet ^ log ≤ number
    → number < radix alphabet * radix alphabet ^ log → count ≡ suc log → count ≡ digit_count alphabet number
counted alphabet {number} {log} least most is =
    let some : 0 < radix alphabet = omega (arith, many_characters) in
    let few : digit_count alphabet number ≤ suc log = digits_needed _ number (suc log) (rw (pow-succ' (radix alphabet) log) most) in
    elim (cases_lt log (digit_count alphabet number)) [
      | inl less ↦ omega arith
      | inr reached ↦ absurd (omega (arith, digits_enough alphabet number, pow-le-pow_right some reached))
    ]

-- more digits are enough, too
pub below_more : (alphabet : Alphabet) {number few count : ℕ} → number < radix alphabet ^ few → few ≤ count
    → number < radix alphabet ^ count
below_more alphabet small more = grind (arith, many_characters, pow-le-pow_right)

-- a number that is written with a width has this many characters

pub length_written : (alphabet : Alphabet) (width number : ℕ) → length (written alphabet width number) ≡ width
length_written alphabet zero number = refl
length_written alphabet (suc width) number = ap suc (length_written _ _ _)

-- a text that blanks fill
pub before : {filling : Filling} (width : ℕ) (text : List ℕ) {blanks : ℕ} → filling ≡ BlanksBefore
    → blanks ≡ width - length text → filled filling width text ≡ replicate blanks 32 ++ text
before width text filling blanks = rw (filling, blanks) refl

pub after : {filling : Filling} (width : ℕ) (text : List ℕ) {blanks : ℕ} → filling ≡ BlanksAfter
    → blanks ≡ width - length text → filled filling width text ≡ text ++ replicate blanks 32
after width text filling blanks = rw (filling, blanks) refl

-- What is read of a number in a form

-- whether a byte is no blank and no letter of a mark
abbrev is_shown : ℕ → Bool
is_shown byte = not (byte == 32 || byte == 88 || byte == 120)

abbrev value_in : Base → List ℕ → ℕ
value_in base text = digits_value (radix (alphabet_of base)) (filter is_shown text)

-- each digit is shown, and has its value
abbrev IsDigit : Alphabet → Type 0
IsDigit alphabet =
    (digit : ℕ) → digit < radix alphabet → (is_shown (character alphabet digit) ≡ true) × (digit_value (character alphabet digit) ≡ digit)

are_digits : (base : Base) → IsDigit (alphabet_of base)
are_digits base.Hex digit small = grind arith
are_digits base.Capitals digit small = grind arith
are_digits base digit small = grind arith

-- the digits of a number are shown; after other digits they have the value of the number
written_value : (alphabet : Alphabet) → IsDigit alphabet → (width number front : ℕ) → number < radix alphabet ^ width
    → digits_value_after (radix alphabet) front (filter is_shown (written alphabet width number))
    ≡ front * radix alphabet ^ width + number
written_value alphabet digits zero number front small = grind (arith, pow-zero)
written_value alphabet digits (suc width) number front small =
    let r : ℕ = radix alphabet in let p : ℕ = r ^ width in let top : ℕ = number / p in
    let digit = digits top (grind (arith, common_steps, pow-suc, div-lt_iff_lt-mul, power_positive)) in
    let rest = written_value _ digits width _ _
    (mod-lt number (power_positive _ _)) in
    ap (λ shown. digits_value_after r front (cond shown (character alphabet top ∷ filter is_shown (written alphabet width (number % p)))
    (filter is_shown (written alphabet width (number % p))))) digit.0
    ∙ rest ∙ ap (λ value. (front * r + value) * p + number % p) digit.1
    ∙ omega (arith, add-mul, mul_assoc, ap (λ n. front * n) (pow-succ' r width), div-add-mod')

mark_value : (base : Base) (is_marked : Bool) (text : List ℕ)
    → value_in base (cond is_marked (hex_mark base) [] ++ text) ≡ value_in base text
mark_value base false text = refl
mark_value base.Hex true text = refl
mark_value base.Capitals true text = refl
mark_value base true text = refl

blanks_hidden : (count : ℕ) → filter is_shown (replicate count 32) ≡ []
blanks_hidden zero = refl
blanks_hidden (suc count) = blanks_hidden count

filled_value : (base : Base) (filling : Filling) (width : ℕ) (text : List ℕ)
    → value_in base (filled filling width text) ≡ value_in base text
filled_value base Zeros width text = refl
filled_value base BlanksBefore width text = grind (arith, filter-append, blanks_hidden)
filled_value base BlanksAfter width text = grind (arith, filter-append, blanks_hidden, append-nil)

pub formatted_value : (form : Form) (number : ℕ) → value_in form.base (formatted form number) ≡ number
formatted_value form number =
    let alphabet = alphabet_of form.base in
    let enough : number < radix alphabet ^ digits_written form number = below_more _ (digits_enough _ _) (omega arith) in
    filled_value _ form.filling form.width (marked form number)
    ∙ mark_value form.base (form.is_marked && nat_lt 0 number) (written alphabet (digits_written form number) number)
    ∙ written_value _ (are_digits _) _ _ 0 enough ∙ omega arith

-- no two numbers are written alike
pub no_two_alike : (form : Form) {one other : ℕ} → formatted form one ≡ formatted form other → one ≡ other
no_two_alike form same = sym (formatted_value form _) ∙ ap (value_in form.base) same ∙ formatted_value form _
