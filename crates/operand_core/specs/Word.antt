-- What one word of `csplit`'s operands spells (POSIX.1-2017, XCU csplit, OPERANDS; `{*}` is GNU's). A pattern is still
-- a text. These bytes have a meaning: 37 `%`, 42 `*`, 43 `+`, 45 `-`, 47 `/`, 92 `\`, 123 `{`, 125 `}`.
use Rattle.std.specs.{
  Prelude.{ℕ, ◌==◌, ◌&&◌, suc, Bool, false, not, List, [], ◌∷◌, codes, take, drop, Option, Some, None, Ok, Err},
  Prelude.{option_map, if◌then◌else◌, bytes_eq},
}
use Rattle.seg_core.specs.Count.{digits_of}
use Rattle.operand_core.specs.{
  Operand.{Offset, Plus, Minus, Times, Count, Endless},
  declared.operand_fault.OperandFaultKind.OperandFaultKind,
}
use Rattle.operand_core.specs.declared.operand_fault.OperandFaultKind.TheVariants as kind

pub data Spelling : Type 0 where
  -- a line number
  number : ℕ → Spelling
  -- a pattern: the delimiter, the text up to the closing delimiter as it stands, and the offset
  search : (delimiter : ℕ) (text : List ℕ) → Offset → Spelling
  -- how often an operand is performed again
  again : Times → Spelling
  -- a word that is none of these, and what is wrong with it
  wrong : OperandFaultKind → Spelling

-- the number that a text writes: one or more digits, at most 2^63-1
abbrev pub number_of : List ℕ → Option ℕ
number_of text = elim (digits_of text) [ Ok n ↦ Some n | Err fault ↦ None ]

abbrev pub line_number : ℕ → Spelling
line_number n = if n == 0 then wrong kind.LineZero else number n

abbrev pub numbered : Option ℕ → Spelling
numbered None = wrong kind.Number
numbered (Some n) = line_number n

-- whether the byte is a `\` that escapes what follows it
abbrev pub is_escape : (escaped : Bool) (byte : ℕ) → Bool
is_escape escaped byte = byte == 92 && not escaped

-- The place of the closing delimiter: the last delimiter that isn't preceded by an odd number of backslashes. `escaped`
-- says whether an odd number of backslashes stands directly before the text.
abbrev pub closing : (delimiter : ℕ) (escaped : Bool) → List ℕ → Option ℕ
closing delimiter escaped [] = None
closing delimiter escaped (byte ∷ text) = elim (closing delimiter (is_escape escaped byte) text) [
  | Some place ↦ Some (suc place)
  | None ↦ if byte == delimiter && not escaped then Some 0 else None
]

-- The text of a pattern. It is read from left to right: a `\` and the delimiter become the delimiter, and a `\` and any
-- other byte stay.
abbrev pub unescaped : (delimiter : ℕ) → List ℕ → List ℕ
unescaped delimiter [] = []
unescaped delimiter (byte ∷ []) = byte ∷ []
unescaped delimiter (byte ∷ next ∷ text) =
    if byte == 92 then (if next == delimiter then delimiter ∷ unescaped delimiter text
    else byte ∷ next ∷ unescaped delimiter text)
    else byte ∷ unescaped delimiter (next ∷ text)

-- the offset that a text writes: nothing, or digits with a sign or without one
abbrev pub offset_of : List ℕ → Option Offset
offset_of [] = Some (Plus 0)
offset_of (byte ∷ text) =
    if byte == 43 then option_map Plus (number_of text)
    else if byte == 45 then option_map Minus (number_of text)
    else option_map Plus (number_of (byte ∷ text))

abbrev pub searched : (delimiter : ℕ) (text : List ℕ) → Option Offset → Spelling
searched delimiter text None = wrong kind.Offset
searched delimiter text (Some offset) = search delimiter text offset

abbrev pub closed_at : (delimiter : ℕ) (text : List ℕ) → Option ℕ → Spelling
closed_at delimiter text None = wrong kind.Unclosed
closed_at delimiter text (Some place) = searched delimiter (take place text) (offset_of (drop (suc place) text))

-- what stands before a `}` at the end of a text
abbrev pub before_brace : List ℕ → Option (List ℕ)
before_brace [] = None
before_brace (byte ∷ []) = if byte == 125 then Some [] else None
before_brace (byte ∷ next ∷ text) = option_map (λ inner. byte ∷ inner) (before_brace (next ∷ text))

-- how often an operand is performed again, as braces say it: `*`, or digits
abbrev pub times_of : List ℕ → Option Times
times_of text = if bytes_eq (codes "*") text then Some Endless else option_map Count (number_of text)

abbrev pub braced : Option (List ℕ) → Option Times
braced None = None
braced (Some inner) = times_of inner

abbrev pub repeated : Option Times → Spelling
repeated None = wrong kind.RepeatText
repeated (Some times) = again times

-- What a word spells. A word that begins with `/` or `%` is a pattern, a word that begins with `{` is a repetition, and
-- any other word is a line number.
abbrev pub spelling : List ℕ → Spelling
spelling [] = wrong kind.Number
spelling (byte ∷ text) =
    if byte == 47 then closed_at byte text (closing byte false text)
    else if byte == 37 then closed_at byte text (closing byte false text)
    else if byte == 123 then repeated (braced (before_brace text))
    else numbered (number_of (byte ∷ text))
