-- The format of names that `csplit -b` takes: a text with one conversion of C's `printf`, which says how a number is
-- written (GNU coreutils manual, csplit; C standard and POSIX, `fprintf`). Texts stand before and after the conversion,
-- and in these two `%` stand for one.
use Rattle.std.specs.{
  Prelude.{ℕ, ◌-◌, ◌==◌, ◌&&◌, ◌||◌, Bool, not, nat_le, List, [], ◌∷◌, length, take, drop, Option, Some, None},
  Prelude.{if◌then◌else◌, is_none, option_and_then, option_map},
  List.{list_any, prefix_len},
  Option.unwrap_or,
}
use Rattle.seg_core.specs.Count.{after_digits, leading_digits, value_of}
use Rattle.ports_core.specs.declared.form.{
  Base.{Base, TheVariants.{Decimal, Octal, Hex, Capitals}},
  Filling.{Filling, TheVariants.{Zeros, BlanksBefore, BlanksAfter}},
  Form.Form,
}
use Rattle.words_core.specs.declared.format.Format.{Format}
use denote.Ref.{Bor}

-- a text that lies somewhere among the words: only its bytes count, so here each lies at the same place
abbrev pub text : (bytes : List ℕ) → Bor (List ℕ)
text bytes = record { ref_ptr = (0, 0); now = bytes }

-- The texts of a format. 37 is `%`.

-- the text from the conversion on: from the first `%` that is left, if pairs of `%` are passed over from the left
abbrev pub after_text : List ℕ → List ℕ
after_text [] = []
after_text (byte ∷ []) = if byte == 37 then byte ∷ [] else []
after_text (byte ∷ next ∷ rest) =
    if byte == 37 then (if next == 37 then after_text rest else byte ∷ next ∷ rest) else after_text (next ∷ rest)

-- the text before the conversion
abbrev pub before_it : List ℕ → List ℕ
before_it text = take (length text - length (after_text text)) text

-- the text with one `%` in the place of each two
abbrev pub plain_text : List ℕ → List ℕ
plain_text [] = []
plain_text (byte ∷ []) = byte ∷ []
plain_text (byte ∷ next ∷ rest) =
    if byte == 37 && next == 37 then 37 ∷ plain_text rest else byte ∷ plain_text (next ∷ rest)

-- the format that a spelled format stands for, with one `%` in the place of each two
abbrev pub format_seen : Format → Format
format_seen format = record format {
  before = text (plain_text format.before.now);
  after = text (plain_text format.after.now);
}

-- The conversion: a `%`, flags, digits of the width, a `.` and digits of the precision, and a letter.

-- the flags: `-` (45), `0` (48), `#` (35) and `'` (39)
abbrev pub is_flag : ℕ → Bool
is_flag byte = byte == 45 || byte == 48 || byte == 35 || byte == 39

-- the base by its letter: d (100), i (105), u (117), o (111), x (120) or X (88)
abbrev pub base_of : ℕ → Option Base
base_of letter = if letter == 100 || letter == 105 || letter == 117 then Some Decimal
    else (if letter == 111 then Some Octal else (if letter == 120 then Some Hex
    else (if letter == 88 then Some Capitals else None)))

-- whether this flag is among the flags
abbrev pub has_flag : (flag : ℕ) → (flags : List ℕ) → Bool
has_flag flag flags = list_any (λ byte. byte == flag) flags

-- whether flags go with a base: `#` with octal and hexadecimal numbers, `'` with decimal numbers, which it doesn't
-- change
abbrev pub go_with : Base → (flags : List ℕ) → Bool
go_with Decimal flags = not (has_flag 35 flags)
go_with base flags = not (has_flag 39 flags)

-- what fills a number to its width: with `-` blanks after it; otherwise, before it, zeros (`0`, no precision) or blanks
abbrev pub filling_by : (flags : List ℕ) → (precision : Option ℕ) → Filling
filling_by flags precision = if has_flag 45 flags then BlanksAfter
    else (if is_none precision && has_flag 48 flags then Zeros else BlanksBefore)

-- the form that flags, width, precision and base give together; the width and the precision, which is 1 if it isn't
-- given, are at most 255
abbrev pub form_of : (flags : List ℕ) → (width : ℕ) → (precision : Option ℕ) → Base → Option Form
form_of flags width precision base =
    if go_with base flags && (nat_le width 255 && nat_le (unwrap_or precision 1) 255)
    then Some (record {
      base = base;
      is_marked = has_flag 35 flags;
      width = width;
      filling = filling_by flags precision;
      precision = unwrap_or precision 1;
    }) else None

-- the precision after a `.` (46), and what follows it
abbrev pub precision_in : List ℕ → Option ℕ
precision_in [] = None
precision_in (byte ∷ text) = if byte == 46 then Some (value_of (leading_digits text)) else None

abbrev pub after_precision : List ℕ → List ℕ
after_precision [] = []
after_precision (byte ∷ text) = if byte == 46 then after_digits text else byte ∷ text

-- the form that the letter at a text's front gives with these, and what follows the letter
abbrev pub with_letter : (flags : List ℕ) → (width : ℕ) → (precision : Option ℕ) → (text : List ℕ)
    → Option (Form × List ℕ)
with_letter flags width precision [] = None
with_letter flags width precision (letter ∷ rest) =
    option_map (λ form. (form, rest)) (option_and_then (form_of flags width precision) (base_of letter))

-- the conversion from its width on
abbrev pub with_width : (flags text : List ℕ) → Option (Form × List ℕ)
with_width flags text =
    let after_width = after_digits text in
    with_letter flags (value_of (leading_digits text)) (precision_in after_width) (after_precision after_width)

-- the conversion that a text begins with, and what follows it
abbrev pub conversion_in : List ℕ → Option (Form × List ℕ)
conversion_in [] = None
conversion_in (percent ∷ text) = with_width (take (prefix_len is_flag text) text) (drop (prefix_len is_flag text) text)

-- a whole format: a text, a conversion, and a text without a further conversion
abbrev pub around : (before : List ℕ) → Form × List ℕ → Option Format
around before read = if length (after_text read.1) == 0
    then Some (record { before = text (plain_text before); form = read.0; after = text (plain_text read.1) }) else None

abbrev pub format_in : List ℕ → Option Format
format_in text = option_and_then (around (before_it text)) (conversion_in (after_text text))
