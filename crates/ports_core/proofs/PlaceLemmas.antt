-- Lemmas on the text by which the system says where standard input stands.
use Rattle.std.{proofs.{Common.{◌≡◌, ◌≢◌, ℕ, ◌<◌, ◌^◌, ◌==◌, Bool, List, [], ◌∷◌, ◌++◌, length, get_or, drop, true, false, suc, zero, cond}, Common.{refl, sym, IsTrue, IfSome, Some, None, Result, Ok, Err, codes, lit<, arith, ap, ◌∙◌}, lemmas.{Grind.common_steps, Str.{Parse.digit_at, Pattern.{IsSplitOnceResult, split_after, split_parts}}}}, specs.{Str.Parse.{AllDigits, IsNumeral, ParsesUnsigned, digits_value, without_leading_plus}, Result.result_ok}}
use denote.Ref.{Bor}
use Rattle.ports_core.specs.inner.Place.{SaysPlace}

-- no newline is among digits, with a plus before them or without
after_plus : (is_plus : Bool) (first : ℕ) (digits : List ℕ) (i : ℕ) → (IsTrue is_plus → first ≡ 43)
    → AllDigits 10 (drop (cond is_plus 1 0) (first ∷ digits)) → i < length (first ∷ digits)
    → get_or (first ∷ digits) i 0 ≢ 10
after_plus false first digits i plus all within =
    λ is. let digit : _ = digit_at (first ∷ digits) i all within in omega (arith, digit)
after_plus true first digits zero plus all within = λ is. omega (arith, plus refl)
after_plus true first digits (suc i) plus all within =
    λ is. let digit : _ = digit_at digits i all (omega arith) in omega (arith, digit)

one_line : (digits : List ℕ) (i : ℕ) → IsNumeral 10 (without_leading_plus digits) → i < length digits
    → get_or digits i 0 ≢ 10
one_line [] i number within = absurd (omega arith)
one_line (first ∷ digits) i number within =
    after_plus (first == 43) first digits i (λ plus. grind (arith, common_steps)) number.1 within

-- there is no tab in the name
one_word : (i : ℕ) → i < 4 → get_or (codes "pos:") i 0 ≢ 9
one_word zero within = λ is. omega (arith, is)
one_word (suc zero) within = λ is. omega (arith, is)
one_word (suc (suc zero)) within = λ is. omega (arith, is)
one_word (suc (suc (suc zero))) within = λ is. omega (arith, is)
one_word (suc (suc (suc (suc i)))) within = absurd (omega arith)

-- what stands after the tab in a text that says a place
after_name : {text : List ℕ} {place : ℕ} (name after : Bor (List ℕ)) → IsSplitOnceResult 9 text (Some (name, after))
    → (said : SaysPlace text place) → after.now ≡ said.digits ++ 10 ∷ said.rest
after_name {text} name after cut said =
    (split_after 9 text (codes "pos:") (said.digits ++ 10 ∷ said.rest) (Some (name, after)) cut (lit< tt) said.is one_word).1

-- a text that says a place has an end of its first line
pub no_line : {text : List ℕ} {place : ℕ} (name after : Bor (List ℕ)) → IsSplitOnceResult 9 text (Some (name, after))
    → IsSplitOnceResult 10 after.now None → (said : SaysPlace text place) → ⊥
no_line name after cut uncut said =
    split_after 10 after.now said.digits said.rest None uncut (lit< tt) (after_name name after cut said)
    (λ i within. one_line said.digits i said.number within)

parsed : {E : Type 0} (digits : List ℕ) (place : ℕ) (found : Result ℕ E) → ParsesUnsigned 64 10 digits found
    → IsNumeral 10 (without_leading_plus digits) → digits_value 10 (without_leading_plus digits) ≡ place
    → place < 2 ^ 64 → result_ok found ≡ Some place
parsed digits place (Ok found) (few, is) number value small = ap Some (is ∙ value)
parsed digits place (Err error) none number value small = absurd (none (number, rw value small))

-- the place that the text says is found
pub place_found : {E : Type 0} {text : List ℕ} {place : ℕ} (name after digits rest : Bor (List ℕ)) (found : Result ℕ E)
    → IsSplitOnceResult 9 text (Some (name, after)) → IsSplitOnceResult 10 after.now (Some (digits, rest))
    → ParsesUnsigned 64 10 digits.now found → SaysPlace text place → place < 2 ^ 64 → result_ok found ≡ Some place
place_found {place} name after digits rest found cut cut_again number said small =
    let line : _ = split_after 10 after.now said.digits said.rest (Some (digits, rest)) cut_again (lit< tt)
    (after_name name after cut said) (λ i within. one_line said.digits i said.number within) in
    parsed said.digits place found (rw line.0 at number) said.number said.value small

-- a place that is found is what the text says
pub place_said : {E : Type 0} {text : List ℕ} (name after digits rest : Bor (List ℕ)) (found : Result ℕ E)
    → name.now ≡ codes "pos:" → IsSplitOnceResult 9 text (Some (name, after))
    → IsSplitOnceResult 10 after.now (Some (digits, rest)) → ParsesUnsigned 64 10 digits.now found
    → IfSome (result_ok found) (SaysPlace text)
place_said {text} name after digits rest (Ok place) named cut cut_again (few, is) = record {
  digits = digits.now;
  rest = rest.now;
  is = (split_parts 9 text (Some (name, after)) cut (lit< tt)).0
      ∙ ap (λ front. front ++ 9 ∷ after.now) named
      ∙ ap (λ line. codes "pos:" ++ 9 ∷ line) (split_parts 10 after.now (Some (digits, rest)) cut_again (lit< tt)).0;
  number = few.0;
  value = sym is;
}
place_said name after digits rest (Err error) named cut cut_again none = tt
