-- What a text writes as a count or as a number, from how its parts were read.
use Rattle.std.{
  proofs.lemmas.{
    Grind.common_steps,
    Bool.{le-leb, lt-leb, lt-ltb, and_from, and_right},
    List.{take_rest, Folds.list_all_at, Sums.{prefix_len-le-length, prefix_len_stops}},
  },
  proofs.Common.{rules, ◌≡◌, ℕ, suc, ◌+◌, ◌-◌, ◌*◌, ◌^◌, ◌<◌, ◌≤◌, ◌⊎◌, min, Bool, true, false, cond, leb},
  proofs.Common.{ltb, ◌&&◌},
  proofs.Common.{List, [], ◌∷◌, Option, Ok, Err, length, take, drop, refl, ap, arith},
  specs.{List.{prefix_len, list_all}, Char.is_ascii_digit},
}
use Rattle.seg_core.specs.{
  declared.count.{Sign.Sign, CountFault.TheVariants.{NoDigits, TooLarge}},
  Count.{value_of, factor_of, greatest, sign_of, after_sign, sized, scaled, unsigned, count_of, digits_of},
}

pub count_of-parts : (text : List ℕ) {sign : Sign} {rest : List ℕ} → sign ≡ sign_of text → rest ≡ after_sign text
    → count_of text ≡ unsigned sign rest
unfolding count_of
count_of-parts text {rest} a b = grind (arith, common_steps)

pub unsigned-none : (sign : Sign) (rest : List ℕ) (end : ℕ) → end ≡ prefix_len is_ascii_digit rest → end ≡ 0
    → unsigned sign rest ≡ Err NoDigits
unsigned-none sign rest end is none = search rules

pub unsigned-some : (sign : Sign) (rest : List ℕ) (end : ℕ) → end ≡ prefix_len is_ascii_digit rest → (end ≡ 0 → ⊥)
    → unsigned sign rest ≡ scaled sign (take end rest) (factor_of (drop end rest))
unsigned-some sign rest end is some = search rules

-- a count with digits, whose suffix was looked up in the table
pub count_of-scaled : (text : List ℕ) {sign : Sign} {rest : List ℕ} (end : ℕ) {found : Option ℕ}
    → sign ≡ sign_of text → rest ≡ after_sign text → end ≡ prefix_len is_ascii_digit rest → (end ≡ 0 → ⊥)
    → found ≡ factor_of (take (length rest - end) (drop end rest))
    → count_of text ≡ scaled sign (take end rest) found
count_of-scaled text {sign} {rest} end a b is some looked_up = grind (arith, common_steps, count_of-parts, unsigned-some, take_rest)

-- what the code reads: the value and the amount held at the greatest u64
pub sized-ok : {sign : Sign} (value factor : ℕ) {held amount : ℕ} → held ≡ min value (2 ^ 64 - 1)
    → amount ≡ min (held * factor) (2 ^ 64 - 1) → 1 ≤ factor → amount ≤ greatest
    → sized sign (value * factor) ≡ Ok (record { sign = sign; amount = amount })
sized-ok {sign} value factor {held} {amount} h a some fits = search rules

pub sized-too_large : (sign : Sign) (value factor : ℕ) {held amount : ℕ} → held ≡ min value (2 ^ 64 - 1)
    → amount ≡ min (held * factor) (2 ^ 64 - 1) → greatest < amount
    → sized sign (value * factor) ≡ Err TooLarge
sized-too_large sign value factor {held} {amount} h a above = search rules

all_step : (is_digit : Bool) {rest : Bool} {n m : ℕ} → (n ≡ m → rest ≡ true) → cond is_digit (1 + n) 0 ≡ suc m
    → (is_digit && rest) ≡ true
all_step true later same = later (omega arith)
all_step false later same = absurd (omega arith)

all_digits : (text : List ℕ) → prefix_len is_ascii_digit text ≡ length text → list_all is_ascii_digit text ≡ true
all_digits [] same = refl
all_digits (byte ∷ text) same = all_step (is_ascii_digit byte) (all_digits text) same

-- the text doesn't begin with a digit, or its digits aren't all of it
pub digits_of-none : (text : List ℕ) (end : ℕ) → end ≡ prefix_len is_ascii_digit text → (end ≡ 0) ⊎ (end < length text)
    → digits_of text ≡ Err NoDigits
unfolding digits_of
digits_of-none [] end is either = refl
digits_of-none (byte ∷ text) end is either =
    let fewer : prefix_len is_ascii_digit (byte ∷ text) < length (byte ∷ text) = omega arith in
    ap (λ (c : Bool). cond c (cond (leb (value_of (byte ∷ text)) greatest) (Ok (value_of (byte ∷ text))) (Err TooLarge)) (Err NoDigits))
    (and_right (ltb 0 (length (byte ∷ text))) (list_all is_ascii_digit (byte ∷ text))
    (list_all_at is_ascii_digit (byte ∷ text) _ 0 fewer (prefix_len_stops is_ascii_digit (byte ∷ text) 0 fewer)))

-- the digits are all of the text
pub digits_of-some : (text : List ℕ) (end : ℕ) → end ≡ prefix_len is_ascii_digit text → (end ≡ 0 → ⊥)
    → length text ≤ end
    → digits_of text ≡ cond (leb (value_of text) greatest) (Ok (value_of text)) (Err TooLarge)
unfolding digits_of
digits_of-some text end is some whole = grind (arith, common_steps, prefix_len-le-length, and_from, lt-ltb, all_digits)

held_whole : (text : List ℕ) (end : ℕ) {held : ℕ} → length text ≤ end
    → held ≡ min (value_of (take end text)) (2 ^ 64 - 1) → held ≡ min (value_of text) (2 ^ 64 - 1)
held_whole text end whole h = grind (arith, common_steps)

pub digits_of-ok : (text : List ℕ) (end : ℕ) {held : ℕ} → end ≡ prefix_len is_ascii_digit text → (end ≡ 0 → ⊥)
    → length text ≤ end → held ≡ min (value_of (take end text)) (2 ^ 64 - 1) → held ≤ greatest
    → digits_of text ≡ Ok held
digits_of-ok text end {held} is some whole h fits = grind (arith, common_steps, held_whole, digits_of-some, le-leb)

pub digits_of-too_large : (text : List ℕ) (end : ℕ) {held : ℕ} → end ≡ prefix_len is_ascii_digit text → (end ≡ 0 → ⊥)
    → length text ≤ end → held ≡ min (value_of (take end text)) (2 ^ 64 - 1) → greatest < held
    → digits_of text ≡ Err TooLarge
digits_of-too_large text end is some whole h above = grind (arith, common_steps, held_whole, digits_of-some, lt-leb)
