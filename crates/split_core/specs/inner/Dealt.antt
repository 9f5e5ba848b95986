-- The lines of a piece, dealt to files.
use Rattle.std.specs.{Prelude.{ℕ, ◌≡◌, ◌+◌, ◌%◌, List, map, min, ◌<◌, [], ◌∷◌, length}, List.range_with_len}
use Rattle.seg_core.specs.Line.{lines_of, line_count, delimiters}
use Rattle.split_core.specs.Parts.{dealt}

-- what each of n files gets of a piece, if its first byte goes to the file at this place
abbrev pub dealt_piece : ℕ → ℕ → ℕ → List ℕ → List (List ℕ)
dealt_piece delim n place piece = map (λ file. dealt n file place (lines_of delim piece)) (range_with_len 0 n)

-- how many of the first files a piece can go to, if its first byte goes to the file at this place
abbrev pub reached_by : ℕ → ℕ → ℕ → List ℕ → ℕ
reached_by delim n place piece = min n (place + line_count delim piece)

-- what the first files get that the piece can go to
abbrev pub dealt_first : ℕ → ℕ → ℕ → List ℕ → List (List ℕ)
dealt_first delim n place piece = map (λ file. dealt n file place (lines_of delim piece))
    (range_with_len 0 (reached_by delim n place piece))

-- a piece was gathered: what each file gets, the place of the next file, and how many of the first files it can go to
pub record Gathers (delim n start : ℕ) (piece : List ℕ) (gathered : List (List ℕ)) (next reached : ℕ) : Type 0 where
  pub gathered_is : gathered ≡ dealt_piece delim n start piece
  pub next_is : next ≡ (start + delimiters delim piece) % n
  pub reached_is : reached ≡ reached_by delim n start piece

pub record DealState : Type 0 where
  -- what was gathered for each file
  pub gathered : List (List ℕ)
  -- the place of the file that the next byte goes to
  pub next : ℕ
  -- the byte that lines end with
  pub delim : ℕ

abbrev pub EachSome : List (List ℕ) → Type 0
EachSome [] = Unit {0}
EachSome (line ∷ lines) = (0 < length line) × EachSome lines

-- what a file has of a text
abbrev pub share_of : ℕ → ℕ → List ℕ → ℕ → List ℕ
share_of delim n x file = dealt n file 0 (lines_of delim x)
