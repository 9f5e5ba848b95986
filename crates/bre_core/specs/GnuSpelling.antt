-- Patterns in GNU's spelling (GNU's manual of grep, Regular Expressions), and the text that POSIX has for each. What
-- stands in a bracket expression stays as it is. The bytes that have a meaning: 43 `+`, 44 `,`, 46 `.`, 58 `:`, 61 `=`,
-- 63 `?`, 83 `S`, 87 `W`, 91 `[`, 92 `\`, 93 `]`, 94 `^`, 115 `s`, 119 `w`, 123 `{`.
use Rattle.std.specs.{
  Prelude.{ℕ, suc, ◌-◌, Bool, ◌==◌, ◌&&◌, ◌||◌, not, nat_lt, List, [], ◌∷◌, ◌++◌, drop, length, codes, if◌then◌else◌},
  List.list_any,
}
use Rattle.bre_core.specs.{
  declared.gnu_spelling.Place.{Place, TheVariants.{Outside, Escaped, Opened, First, Inside, Bracket, Named, Marked}},
  Bracket.begins_with,
  Class.is_alnum,
  Interval.begins_with_digit,
}

-- The places at which a byte may stand are the cases of `Place` in `gnu_spelling.rt`.

-- the place after a byte that is a member or begins one
abbrev pub after_member : ℕ → Place
after_member byte = if byte == 91 then Bracket else Inside

-- the place after a byte in a later place, where `]` closes the expression
abbrev pub after_later : ℕ → Place
after_later byte = if byte == 93 then Outside else after_member byte

-- the place after a byte of what `[.`, `[=` or `[:` began
abbrev pub after_named : (mark byte : ℕ) → Place
after_named mark byte = if byte == mark then Marked mark else Named mark

-- the place after a byte
abbrev pub place_after : Place → ℕ → Place
place_after Outside byte = if byte == 92 then Escaped else (if byte == 91 then Opened else Outside)
place_after Escaped byte = Outside
place_after Opened byte = if byte == 94 then First else after_member byte
place_after First byte = after_member byte
place_after Inside byte = after_later byte
place_after Bracket byte = if byte == 46 || byte == 61 || byte == 58 then Named byte else after_later byte
place_after (Named mark) byte = after_named mark byte
place_after (Marked mark) byte = if byte == 93 then Inside else after_named mark byte

-- whether a `\` before a byte changes nothing: the byte is no letter and no digit, and has no meaning in POSIX or GNU's
-- spelling, neither alone nor after a `\`
abbrev pub is_itself : ℕ → Bool
is_itself byte = not (is_alnum byte || list_any (λ other. other == byte) (codes ".[\\*^$<>`'|+?(){}"))

-- What is written for a `\` before this text and for the byte after the `\`. A pair that has no other spelling stays.
-- If POSIX has no such pattern, the pair is refused later.
abbrev pub escape_of : List ℕ → List ℕ
escape_of [] = codes "\\"
escape_of (byte ∷ text) =
    if byte == 43 then codes "\\{1,\\}" else
    (if byte == 63 then codes "\\{0,1\\}" else
    (if byte == 119 then codes "[[:alnum:]_]" else
    (if byte == 87 then codes "[^[:alnum:]_]" else
    (if byte == 115 then codes "[[:space:]]" else
    (if byte == 83 then codes "[^[:space:]]" else
    (if byte == 123 && begins_with 44 text && begins_with_digit (drop 1 text) then codes "\\{0" else
    (if is_itself byte then byte ∷ [] else 92 ∷ byte ∷ [])))))))

-- what is written for the byte at a text's front; a byte after a `\` was written with the `\`
abbrev pub written_for : Place → List ℕ → List ℕ
written_for place [] = []
written_for Outside (byte ∷ text) = if byte == 92 then escape_of text else byte ∷ []
written_for Escaped (byte ∷ text) = []
written_for place (byte ∷ text) = byte ∷ []

abbrev pub respelled_from : Place → List ℕ → List ℕ
respelled_from place [] = []
respelled_from place (byte ∷ text) = written_for place (byte ∷ text) ++ respelled_from (place_after place byte) text

-- the text of a pattern as POSIX spells it; the empty pattern becomes an empty group
abbrev pub respelled : List ℕ → List ℕ
respelled [] = codes "\\(\\)"
respelled (byte ∷ text) = respelled_from Outside (byte ∷ text)

-- how many bytes of the typed text stand before the byte for which the byte at this offset was written
abbrev pub typed_from : Place → List ℕ → (offset : ℕ) → ℕ
typed_from place [] offset = 0
typed_from place (byte ∷ text) offset =
    if nat_lt offset (length (written_for place (byte ∷ text))) then 0
    else suc (typed_from (place_after place byte) text (offset - length (written_for place (byte ∷ text))))

-- an offset of the written text, in the typed text
abbrev pub typed_at : List ℕ → (offset : ℕ) → ℕ
typed_at text offset = typed_from Outside text offset
