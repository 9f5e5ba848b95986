-- Numbers in decimal, as the library prints them, filled with zeros.
use Rattle.std.proofs.{
  lemmas.{
    List.length-append,
    Fmt.{decimal_by_steps, decimal_is_IsNumeral, decimal_nonempty, length-decimal-le},
    Int.Digits.digits_value-lt,
  },
  Common.{◌≡◌, ℕ, ◌+◌, ◌-◌, ◌/◌, ◌%◌, ◌^◌, ◌<◌, ◌≤◌, zero, suc, max, List, [], ◌∷◌, ◌++◌, length},
  Common.{replicate, decimal, refl, sym, ◌∙◌, ap, arith, append_assoc, rules},
}
use Rattle.ports_core.specs.{
  declared.{alphabet.Alphabet.TheVariants.Digits, form.Form.Form},
  Name.{decimal_form, digit_count, digits_written, formatted, marked, written, zero_filled},
}
use Rattle.ports_core.proofs.{CounterLemmas.more_digits, FormLemmas.{below_more, digits_enough, digits_needed}}

zeros : (width : ℕ) → written Digits width 0 ≡ replicate width 48
zeros zero = refl
zeros (suc width) = grind (arith, zeros width)

last_digit : (width : ℕ) {n : ℕ} → n < 10 ^ suc width
    → written Digits (suc width) n ≡ written Digits width (n / 10) ++ (48 + n % 10) ∷ []
last_digit width {n} small = let front : suc width - 1 ≡ width = omega arith in
    more_digits Digits (omega arith) small ∙ ap (λ digits. written Digits digits (n / 10) ++ (48 + n % 10) ∷ []) front

-- filled with zeros to any width that holds n, the text is n written with this width
abbrev Fills : ℕ → List ℕ → Type 0
Fills n text = (width : ℕ) → n < 10 ^ suc width → zero_filled (suc width) text ≡ written Digits (suc width) n

fills_one : (n : ℕ) → n < 10 → Fills n ((48 + n) ∷ [])
fills_one n digit width small =
    let count : suc width - 1 ≡ width = omega arith in
    let front : n / 10 ≡ 0 = omega arith in
    let last : n % 10 ≡ n = omega arith in cc (last_digit _ small, zeros _)

fills_more : (n : ℕ) (digits : List ℕ) → 10 ≤ n → Fills (n / 10) digits → Fills n (digits ++ (48 + n % 10) ∷ [])
fills_more n digits ten fills zero small = search rules
fills_more n digits ten fills (suc width) small =
    let count : suc (suc width) - length (digits ++ (48 + n % 10) ∷ []) ≡ suc width - length digits = omega
    (arith, length-append digits ((48 + n % 10) ∷ [])) in
    ap (λ zeros. replicate zeros 48 ++ (digits ++ (48 + n % 10) ∷ [])) count ∙ sym (append_assoc (replicate (suc width - length digits) 48) digits _)
    ∙ ap (λ front. front ++ (48 + n % 10) ∷ []) (fills _ (search rules)) ∙ sym (last_digit _ small)

pub fills : (width n : ℕ) → 0 < width → n < 10 ^ width → n < 2 ^ 64
    → zero_filled width (decimal n) ≡ written Digits width n
fills zero n some small least = absurd (omega arith)
fills (suc width) n some small least = decimal_by_steps Fills fills_one fills_more n least width small

-- a number in decimal has as many digits as it needs; the number 0 has one digit
long_enough : (n : ℕ) → n < 2 ^ 64 → digit_count Digits n ≤ length (decimal n)
long_enough n least =
    grind (arith, decimal_is_IsNumeral, digits_needed, digits_value-lt)

no_longer : (n : ℕ) → n < 2 ^ 64 → length (decimal n) ≤ max 1 (digit_count Digits n)
no_longer n least = length-decimal-le (max 1 (digit_count Digits n)) n (omega arith) (below_more Digits (digits_enough Digits n) (omega arith)) least

pub digits_fill : (digits n : ℕ) → n < 2 ^ 64 → formatted (decimal_form digits) n ≡ zero_filled digits (decimal n)
digits_fill digits n least =
    let form : Form = decimal_form digits in
    let count : ℕ = digits_written form n in
    let blanks : 0 - length (marked form n) ≡ 0 = omega arith in
    let enough : n < 10 ^ count = below_more Digits (digits_enough Digits n) (omega arith) in
    let zeros : count - length (decimal n) ≡ digits - length (decimal n) =
    omega (arith, decimal_nonempty, long_enough, no_longer) in
    ap (λ blanks. replicate blanks 32 ++ marked form n) blanks ∙ sym (fills count n (omega arith) enough least)
    ∙ ap (λ zeros. replicate zeros 48 ++ decimal n) zeros
