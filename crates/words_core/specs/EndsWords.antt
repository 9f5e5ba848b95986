-- What options and operands ask of `head` or `tail`.
use Rattle.std.specs.Prelude.{ℕ, List, [], ◌∷◌, codes, nat_lt, Bool, true, false, length}
use Rattle.seg_core.specs.{
  declared.{count.{Sign.TheVariants.Plain, Count.Count}, unit.Unit.{Unit as Counted, TheVariants.Lines}},
  declared.count.Sign.Sign,
  declared.count.Sign.TheVariants.{Minus, Plus},
}
use Rattle.words_core.specs.{
  declared.{choice.Choice.Choice, spelled.Chosen.Chosen, settings.Headers.{Headers, TheVariants.ForSeveral}},
  Given.{asked_by, Given, GivenOperand, texts_of},
  declared.settings.Headers.TheVariants.{Never, Always},
}
use Rattle.words_core.specs.declared.choice.Choice.TheVariants as choice

-- what words ask of `head` or `tail`
pub record EndsAsked : Type 0 where
  pub unit : Counted
  pub count : Count
  pub headers : Headers
  -- the byte that lines end with
  pub delim : ℕ
  -- the names of the inputs
  pub names : List (List ℕ)

-- what is asked for without options: ten lines that end with the newline, and headers if there are several inputs
abbrev pub ten_lines : List (List ℕ) → EndsAsked
ten_lines names = record {
  unit = Lines;
  count = record { sign = Plain; amount = 10 };
  headers = ForSeveral;
  delim = 10;
  names = names;
}

-- what is asked for with one more option; the last count decides, and so does the last option for headers

abbrev pub ends_by : EndsAsked → Choice → EndsAsked
ends_by asked (choice.Amount unit count) = record asked { unit = unit; count = count }
ends_by asked (choice.Headers headers) = record asked { headers = headers }
ends_by asked choice.ZeroTerminated = record asked { delim = 0 }
ends_by asked choice = asked

-- the names of the inputs: the operands, or standard input if there is no operand

abbrev pub or_dash : List (List ℕ) → List (List ℕ)
or_dash [] = codes "-" ∷ []
or_dash (name ∷ names) = name ∷ names

abbrev pub names_asked : List GivenOperand → List (List ℕ)
names_asked operands = or_dash (texts_of operands)

-- what options ask for, for these inputs
abbrev pub ends_of : List (List ℕ) → List Chosen → EndsAsked
ends_of names options = asked_by ends_by (ten_lines names) options

abbrev pub ends_asked : Given → EndsAsked
ends_asked given = ends_of (names_asked given.operands) given.options

abbrev pub is_minus : Sign → Bool
is_minus Minus = true
is_minus sign = false

abbrev pub is_plus : Sign → Bool
is_plus Plus = true
is_plus sign = false

-- whether a header goes before each input: as an option says, or without an option if there are several inputs
abbrev pub has_headers : Headers → List (List ℕ) → Bool
has_headers ForSeveral names = nat_lt 1 (length names)
has_headers Never names = false
has_headers Always names = true
