-- Counts, as options take them: an optional sign, digits, and a suffix that stands for a factor.
use Rattle.std.specs.{
  Prelude.{ℕ, Bool, ◌+◌, ◌-◌, ◌*◌, ◌^◌, ◌==◌, ◌&&◌, nat_lt, nat_le, List, [], ◌∷◌, Option, None, Some, Result, Ok, Err},
  Prelude.{if◌then◌else◌, length, drop, codes, bytes_eq},
  List.{prefix_len, take_while, list_all},
  Char.is_ascii_digit,
}
use Rattle.seg_core.specs.declared.count.{
  Sign.{Sign, TheVariants.{Plain, Minus, Plus}},
  Count.Count,
  CountFault.{CountFault, TheVariants.{NoDigits, Suffix, TooLarge}},
}

-- the number that digits write in base ten, the highest digit first; 48 is the digit 0
abbrev pub value_of : List ℕ → ℕ
value_of [] = 0
value_of (digit ∷ digits) = (digit - 48) * 10 ^ length digits + value_of digits

-- the longest run of digits that a text begins with
abbrev pub leading_digits : List ℕ → List ℕ
leading_digits text = take_while is_ascii_digit text

-- what follows the leading digits
abbrev pub after_digits : List ℕ → List ℕ
after_digits text = drop (prefix_len is_ascii_digit text) text

-- each suffix and its factor
abbrev pub suffixes : List (List ℕ × ℕ)
suffixes =
    (codes "", 1)
    ∷ (codes "b", 512)
    ∷ (codes "kB", 1000) ∷ (codes "KB", 1000)
    ∷ (codes "k", 1024) ∷ (codes "K", 1024) ∷ (codes "KiB", 1024)
    ∷ (codes "MB", 1000 ^ 2)
    ∷ (codes "m", 1024 ^ 2) ∷ (codes "M", 1024 ^ 2) ∷ (codes "MiB", 1024 ^ 2)
    ∷ (codes "GB", 1000 ^ 3)
    ∷ (codes "G", 1024 ^ 3) ∷ (codes "GiB", 1024 ^ 3)
    ∷ (codes "TB", 1000 ^ 4)
    ∷ (codes "T", 1024 ^ 4) ∷ (codes "TiB", 1024 ^ 4)
    ∷ []

-- the factor that stands beside a suffix in a table
abbrev pub beside : List (List ℕ × ℕ) → List ℕ → Option ℕ
beside [] suffix = None
beside (row ∷ rows) suffix = if bytes_eq row.0 suffix then Some row.1 else beside rows suffix

unfoldable pub factor_of : List ℕ → Option ℕ
factor_of suffix = beside suffixes suffix

-- the greatest amount, of 63 bits
abbrev pub greatest : ℕ
greatest = 2 ^ 63 - 1

-- the sign of a text; 43 is a plus, 45 a minus
abbrev pub sign_of : List ℕ → Sign
sign_of [] = Plain
sign_of (byte ∷ text) = if byte == 43 then Plus else (if byte == 45 then Minus else Plain)

abbrev pub after_sign : List ℕ → List ℕ
after_sign [] = []
after_sign (byte ∷ text) = if byte == 43 then text else (if byte == 45 then text else byte ∷ text)

-- a sign and an amount, or a fault if the amount is too large
abbrev pub sized : Sign → ℕ → Result Count CountFault
sized sign amount = if nat_le amount greatest then Ok (record { sign = sign; amount = amount }) else Err TooLarge

-- the count of digits and a suffix's factor, or a fault if the table doesn't have the suffix
abbrev pub scaled : Sign → List ℕ → Option ℕ → Result Count CountFault
scaled sign digits None = Err Suffix
scaled sign digits (Some factor) = sized sign (value_of digits * factor)

-- the count of a sign and the text after it
abbrev pub unsigned : Sign → List ℕ → Result Count CountFault
unsigned sign text = if length (leading_digits text) == 0 then Err NoDigits
    else scaled sign (leading_digits text) (factor_of (after_digits text))

-- the count that a text writes, or the first reason why it writes none: no digits, no such suffix, too large
unfoldable pub count_of : List ℕ → Result Count CountFault
count_of text = unsigned (sign_of text) (after_sign text)

-- whether a text is one or more digits, and nothing else
abbrev pub is_number : List ℕ → Bool
is_number text = nat_lt 0 (length text) && list_all is_ascii_digit text

-- the number that a text of digits alone writes, if it isn't too large
unfoldable pub digits_of : List ℕ → Result ℕ CountFault
digits_of text = if is_number text then (if nat_le (value_of text) greatest then Ok (value_of text) else Err TooLarge)
    else Err NoDigits
