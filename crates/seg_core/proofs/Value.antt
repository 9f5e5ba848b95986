-- The value of digits, one digit after another, and held at a limit.
use Rattle.std.proofs.{
  Common.{rules, ◌≡◌, ℕ, ◌+◌, ◌-◌, ◌*◌, ◌^◌, ◌<◌, min, List, [], ◌∷◌, ◌++◌, length, take, get_or, ap, ◌∙◌, arith},
  Common.{add-one, pow-suc},
  lemmas.List.{take_more, length_push},
}
use Rattle.seg_core.specs.Count.{value_of}

push_step : (first power value digit more : ℕ) {later : ℕ} → more ≡ power * 10 → later ≡ value * 10 + digit
    → first * more + later ≡ (first * power + value) * 10 + digit
push_step first power value digit more {later} a b = ap (λ m. first * m + later) a ∙ omega arith

pub value_of_push : (digits : List ℕ) (digit : ℕ)
    → value_of (digits ++ digit ∷ []) ≡ value_of digits * 10 + (digit - 48)
value_of_push [] digit = omega arith
value_of_push (first ∷ digits) digit =
    let power : 10 ^ length (digits ++ digit ∷ []) ≡ 10 ^ length digits * 10 = ap (λ n. 10 ^ n) (length_push digits digit ∙ add-one (length digits)) ∙ pow-suc 10 (length digits) in
    push_step (first - 48) (10 ^ length digits) (value_of digits) (digit - 48) (10 ^ length (digits ++ digit ∷ [])) power (value_of_push digits digit)

pub value_of_more : (text : List ℕ) (i : ℕ) → i < length text
    → value_of (take (i + 1) text) ≡ value_of (take i text) * 10 + (get_or text i 0 - 48)
value_of_more text i h = ap value_of (take_more text i 0 h) ∙ value_of_push (take i text) (get_or text i 0)

-- a step of the value that is held at a limit
pub held_step : (limit value : ℕ) {held tens next : ℕ} (digit : ℕ) → held ≡ min value limit
    → tens ≡ min (held * 10) limit → next ≡ min (tens + digit) limit → next ≡ min (value * 10 + digit) limit
held_step limit value digit a b c = search rules
