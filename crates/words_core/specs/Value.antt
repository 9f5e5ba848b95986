-- What the value of an option says, or what is wrong with it. A value that isn't of its form is told before one that is
-- too large, and that before 0.
use Rattle.std.specs.{
  Prelude.{ℕ, ◌+◌, ◌-◌, ◌*◌, ◌/◌, ◌^◌, ◌==◌, ◌&&◌, nat_lt, min, codes, length, List, [], ◌∷◌},
  Prelude.{Option, Some, None, Result, Ok, Err, if◌then◌else◌, bytes_eq, eqb, filter, find, ok_or, option_map},
  Char.{is_ascii_digit, is_digit},
  List.{list_all, list_any, starts_with},
  Option.option_or,
  Str.Parse.digits_value,
}
use Rattle.seg_core.specs.Count.{after_digits, count_of, leading_digits, value_of}
use Rattle.ports_core.specs.declared.{
  calling.Calling.{Calling, TheVariants.{Cutters, OwnName}},
  on_broken.OnBroken.OnBroken,
  fault.UsageKind.{UsageKind, TheVariants.{BadNumber, BadSeparator, BadSuffix, BadFollow, BadMode}},
}
pub use Rattle.words_core.specs.Number.{counted, not_zero, number_fault, positive_in, then_check, up_to}
use Rattle.words_core.specs.declared.value.Followed.{Followed}
use Rattle.ports_core.specs.declared.on_broken.OnBroken.TheVariants as on_broken
use Rattle.words_core.specs.declared.value.Followed.TheVariants as followed

-- a number in hexadecimal: one or more digits, `A` to `F` as `a` to `f`, and nothing else; 2^63-1 at most

abbrev pub hex_in : List ℕ → Result ℕ UsageKind
hex_in text = if nat_lt 0 (length text) && list_all (λ byte. is_digit byte 16) text
    then up_to (2 ^ 63 - 1) (Ok (digits_value 16 text)) else Err BadNumber

abbrev pub some_amount : List ℕ → Result ℕ UsageKind
some_amount text = then_check (counted (count_of text)) (λ count. not_zero count.amount)

-- the size of a file: a count, at least 1; with a `-` (45) before it it is a bad number
abbrev pub size_in : List ℕ → Result ℕ UsageKind
size_in [] = some_amount []
size_in (byte ∷ text) = if byte == 45 then Err BadNumber else some_amount (byte ∷ text)

-- the byte that lines end with: one byte, or `\0` for byte 0
abbrev pub byte_in : List ℕ → Result ℕ UsageKind
byte_in (byte ∷ []) = Ok byte
byte_in text = if bytes_eq text (codes "\\0") then Ok 0 else Err BadSeparator

-- the ending of names: a text without `/` (47)
abbrev pub ending_in : List ℕ → Result (List ℕ) UsageKind
ending_in text = if list_any (λ byte. byte == 47) text then Err BadSuffix else Ok text

-- One of a few values, by its text. By a tool's own name the text may be cut short, where one value alone begins so.

-- the value of this text
abbrev pub value_in : {A : Type 0} → List (List ℕ × A) → (text : List ℕ) → Option A
value_in values text = option_map (λ value. value.1) (find (λ value. bytes_eq value.0 text) values)

-- the values that begin so
abbrev pub values_from : {A : Type 0} → List (List ℕ × A) → (start : List ℕ) → List (List ℕ × A)
values_from values start = filter (λ value. starts_with eqb value.0 start) values

-- the only one of these values
abbrev pub only_value : {A : Type 0} → List (List ℕ × A) → Option A
only_value (value ∷ []) = Some value.1
only_value values = None

-- the value of this text, or else by the own name the one that is cut short to it
abbrev pub value_by : {A : Type 0} → Calling → List (List ℕ × A) → (text : List ℕ) → Option A
value_by Cutters values text = value_in values text
value_by OwnName values text = option_or (value_in values text) (only_value (values_from values text))

-- what is followed

abbrev pub follow_values : List (List ℕ × Followed)
follow_values = (codes "descriptor", followed.Descriptor) ∷ (codes "name", followed.Name) ∷ []

abbrev pub followed_in : Calling → List ℕ → Result Followed UsageKind
followed_in calling text = ok_or (value_by calling follow_values text) BadFollow

-- what is done once an output is broken

abbrev pub on_broken_values : List (List ℕ × OnBroken)
on_broken_values =
    (codes "warn", on_broken.Warn) ∷ (codes "exit", on_broken.Exit) ∷ (codes "warn-nopipe", on_broken.WarnNoPipe)
    ∷ (codes "exit-nopipe", on_broken.ExitNoPipe) ∷ []

abbrev pub on_broken_in : Calling → List ℕ → Result OnBroken UsageKind
on_broken_in calling text = ok_or (value_by calling on_broken_values text) BadMode

-- A pause in seconds: digits, which may have a `.` (46) before, among or after them. It is taken in milliseconds, rounded
-- up, 2^63-1 at most.

-- the digits after the `.`; none where nothing is left
abbrev pub fraction_in : List ℕ → Option (List ℕ)
fraction_in [] = Some []
fraction_in (byte ∷ digits) = if byte == 46 && list_all is_ascii_digit digits then Some digits else None

-- what digits write where the first counts `unit` and each next one a tenth of the one before it, rounded up
abbrev pub fraction_of : ℕ → List ℕ → ℕ
fraction_of unit [] = 0
fraction_of unit (digit ∷ digits) =
    if unit == 0 then (if list_all (λ digit. digit == 48) (digit ∷ digits) then 0 else 1)
    else (digit - 48) * unit + fraction_of (unit / 10) digits

abbrev pub milliseconds : ℕ → List ℕ → ℕ
milliseconds seconds fraction = min (2 ^ 63 - 1) (seconds * 1000 + fraction_of 100 fraction)

abbrev pub pause_with : List ℕ → Option (List ℕ) → Result ℕ UsageKind
pause_with whole None = Err BadNumber
pause_with whole (Some fraction) =
    if length whole + length fraction == 0 then Err BadNumber else Ok (milliseconds (value_of whole) fraction)

abbrev pub pause_in : List ℕ → Result ℕ UsageKind
pause_in text = pause_with (leading_digits text) (fraction_in (after_digits text))
