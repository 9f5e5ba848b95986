-- What a tool adds by its own name to a message that refuses words: which letter is no option, for which option a value
-- was, or what a value may be. It follows from the words alone.
use Rattle.std.specs.{
  Char.is_ascii_digit,
  Option.option_map_or,
  Prelude.{ℕ, ◌-◌, ◌==◌, ◌||◌, nat_lt, Bool, true, false, List, [], ◌∷◌, ◌++◌, codes, drop, find, is_none, take},
  Prelude.{Option, None, Result, Err, if◌then◌else◌, slice_index_or},
}
use Rattle.ports_core.specs.{
  Text.in_quotes,
  declared.{
    calling.Calling.{Calling, TheVariants.{Cutters, OwnName}},
    fault.{
      Fault.{Fault, TheVariants.Usage},
      UsageKind.{UsageKind, TheVariants.{BadFollow, MissingValue, UnknownOption}},
    },
  },
}
use Rattle.words_core.specs.{
  Given.Given,
  Spelling.given_by,
  Table.{OptionRow, ToolRow, option_lettered, row_named, tools},
}

abbrev pub word_at : List (List ℕ) → ℕ → List ℕ
word_at words place = slice_index_or words place []

-- the tool that words name
abbrev pub row_of : List (List ℕ) → Option ToolRow
row_of [] = None
row_of (name ∷ words) = row_named (tools OwnName) name

-- Which letter of several in one word is no option's: the first such. 45 is a hyphen. A word that begins with two is a
-- long option, and one that begins with a hyphen and a digit has a number; of these nothing is said.

abbrev pub letters_of : List ℕ → List ℕ
letters_of (hyphen ∷ letter ∷ next ∷ letters) =
    if letter == 45 || is_ascii_digit letter then [] else letter ∷ next ∷ letters
letters_of word = []

abbrev pub quoted_letter : ℕ → List ℕ
quoted_letter letter = if nat_lt letter 128 then codes ": '" ++ letter ∷ codes "'" else []

abbrev pub unknown_among : List OptionRow → (letters : List ℕ) → List ℕ
unknown_among rows letters =
    option_map_or quoted_letter (find (λ letter. is_none (option_lettered rows letter)) letters) []

abbrev pub unknown_letter : Option ToolRow → (word : List ℕ) → List ℕ
unknown_letter row word = option_map_or (λ row. unknown_among row.options (letters_of word)) row []

-- For which option a value in a word of its own was: the word before it, if the words up to that one end with an option
-- that lacks its value.

abbrev pub lacks_value : Result Given Fault → Bool
lacks_value (Err (Usage MissingValue word)) = true
lacks_value given = false

abbrev pub end_with_option : List (List ℕ) → Bool
end_with_option words =
    option_map_or (λ row. lacks_value (given_by OwnName row (drop 1 words))) (row_of words) false

abbrev pub for_option : List (List ℕ) → ℕ → List ℕ
for_option words place =
    if end_with_option (take place words) then codes " for " ++ in_quotes (word_at words (place - 1)) else []

-- What `--follow` may be, after the word that says something else. At place 0 the whole line is refused: by its own name
-- `tail` refuses a whole line only if standard input can't be followed as it asks.
abbrev pub for_follow : List (List ℕ) → ℕ → List ℕ
for_follow words place =
    if place == 0 then codes ": standard input is followed only by -f, and only if it is a regular file"
    else codes " " ++ in_quotes (word_at words place) ++ codes ": name or descriptor"

-- what is said of this kind of fault, which stands in the word at this place
abbrev pub detail_of : Calling → List (List ℕ) → UsageKind → ℕ → List ℕ
detail_of Cutters words kind place = []
detail_of OwnName words UnknownOption place = unknown_letter (row_of words) (word_at words place)
detail_of OwnName words BadFollow place = for_follow words place
detail_of OwnName words kind place = for_option words place
