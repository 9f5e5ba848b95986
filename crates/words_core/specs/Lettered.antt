-- A number with letters as the first word: after a hyphen, as `-5c` of `head` and `-20f` of `tail`, or after a `+`, as
-- `+5` of `tail`. These forms are GNU's, from before POSIX. A text here is what follows the hyphen or the `+`: digits, and
-- then letters. One letter may stand for a unit, and the others name options.
use Rattle.std.specs.{
  Prelude.{ℕ, ◌*◌, ◌^◌, ◌==◌, ◌&&◌, ◌||◌, not, nat_lt, Bool, false, List, [], ◌∷◌, length, filter, codes, is_some},
  Prelude.{Option, Some, None, Result, if◌then◌else◌},
  List.list_all,
  Option.unwrap_or,
}
use Rattle.seg_core.specs.{
  Count.{after_digits, is_number, leading_digits, sized, value_of},
  declared.{count.{Count.Count, Sign.Sign}, unit.Unit.{Unit as Measured, TheVariants.{Bytes, Lines}}},
}
use Rattle.ports_core.specs.declared.{calling.Calling.{Calling, TheVariants.OwnName}, fault.UsageKind.UsageKind}
use Rattle.words_core.specs.{
  declared.{choice.Choice.Choice, table.{Letters.{Letters, TheVariants.{Never, OfHead, OfTail}}, Takes.Takes}},
  Table.{OptionRow, alone, is_among, option_lettered},
  Value.counted,
}

-- the unit that a letter after the digits stands for, and the factor of the number: 98 is b, 99 c, 107 k, 108 l, 109 m
abbrev pub unit_of : ℕ → Option (Measured × ℕ)
unit_of letter =
    if letter == 98 then Some (Bytes, 512)
    else (if letter == 99 then Some (Bytes, 1)
    else (if letter == 107 then Some (Bytes, 1024)
    else (if letter == 108 then Some (Lines, 1)
    else (if letter == 109 then Some (Bytes, 1024 ^ 2)
    else None))))

abbrev pub is_unit : ℕ → Bool
is_unit letter = is_some (unit_of letter)

-- the unit and the factor of the first letter that has them; without such a letter lines are counted
abbrev pub unit_in : List ℕ → Measured × ℕ
unit_in [] = (Lines, 1)
unit_in (letter ∷ letters) = unwrap_or (unit_of letter) (unit_in letters)

-- the letters that stand for no unit
abbrev pub others : List ℕ → List ℕ
others letters = filter (λ letter. not (is_unit letter)) letters

-- the count that digits write, or 10 without digits, times `each`; or a fault if that is too large
abbrev pub times : Sign → List ℕ → ℕ → Result Count UsageKind
times sign digits each = counted (sized sign ((if length digits == 0 then 10 else value_of digits) * each))

-- The letters that may follow the digits. Each stands for a unit or names an option that may stand without a value, and
-- at most one stands for a unit.

-- what an option asks for, if it may stand without a value
abbrev pub switched : Option Takes → Option Choice
switched None = None
switched (Some takes) = alone takes

abbrev pub is_known : List OptionRow → ℕ → Bool
is_known rows letter = is_unit letter || is_some (switched (option_lettered rows letter))

abbrev pub are_known : List OptionRow → List ℕ → Bool
are_known rows letters = list_all (is_known rows) letters && nat_lt (length (filter is_unit letters)) 2

-- letters of `tail`: `b`, `c`, `l` or `f`, or one of the first three and then `f`
abbrev pub are_of_tail : List ℕ → Bool
are_of_tail letters = is_among
    (codes "f" ∷ codes "b" ∷ codes "bf" ∷ codes "c" ∷ codes "cf" ∷ codes "l" ∷ codes "lf" ∷ []) letters

-- the letters that `tail` takes without digits
abbrev pub without_digits : List (List ℕ)
without_digits = codes "b" ∷ codes "bf" ∷ codes "l" ∷ codes "lf" ∷ []

-- whether a text begins with a digit
abbrev pub has_digits : List ℕ → Bool
has_digits text = nat_lt 0 (length (leading_digits text))

-- Whether digits and letters are of a form that the tool takes: for `head` there are digits; for `tail` the letters are its
-- own, and there are digits or the text is one of `without_digits`.
abbrev pub is_taken : Letters → List ℕ → Bool
is_taken Never text = false
is_taken OfHead text = has_digits text
is_taken OfTail text = are_of_tail (after_digits text) && (has_digits text || is_among without_digits text)

-- whether a text after a hyphen is a number with letters
abbrev pub is_lettered : List OptionRow → Letters → List ℕ → Bool
is_lettered rows letters text = are_known rows (after_digits text) && is_taken letters text

-- Whether a text after a `+` says where `tail` begins, if `tail` is called by its own name: digits, or what may follow
-- a hyphen, or `c` and `cf`. After a hyphen `c` is an option.
abbrev pub is_start : Calling → List OptionRow → Letters → List ℕ → Bool
is_start OwnName rows OfTail text = are_known rows (after_digits text)
    && (is_number text || (is_taken OfTail text || is_among (codes "c" ∷ codes "cf" ∷ []) text))
is_start calling rows letters text = false
