-- What a private call says: the place at which standard input stands, as the system writes it.
use Rattle.std.specs.{Prelude.{◌≡◌, ℕ, List, ◌∷◌, ◌++◌, codes}, Str.Parse.{IsNumeral, digits_value, without_leading_plus}}

-- the first line is `pos:`, a tab and the place in decimal; a plus may stand before the digits
pub record SaysPlace (text : List ℕ) (place : ℕ) : Type 0 where
  pub digits : List ℕ
  pub rest : List ℕ
  pub is : text ≡ codes "pos:" ++ 9 ∷ (digits ++ 10 ∷ rest)
  pub number : IsNumeral 10 (without_leading_plus digits)
  pub value : digits_value 10 (without_leading_plus digits) ≡ place
