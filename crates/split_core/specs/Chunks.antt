-- How a text is cut into chunks, and which bytes or lines go with each: GNU coreutils manual, split, `-n N` and
-- `-n l/N`.
use Rattle.std.specs.{
  Prelude.{ℕ, zero, suc, ◌+◌, ◌*◌, ◌/◌, ◌%◌, ◌==◌, ◌<◌, ◌≤◌, nat_lt, nat_le, min, Bool, true, false, List, []},
  Prelude.{◌∷◌, ◌++◌, length, take, drop, map, filter, Option, Some, None, get_or, ◌≡◌, if◌then◌else◌},
  List.{flat_map, range_with_len},
}
use Rattle.seg_core.specs.{
  Line.{joined, delimiters, first_lines, line_count, lines_of},
  declared.{cut.Chunks.Chunks, unit.Unit.{Unit, TheVariants.{Bytes, Lines}}},
}
use Rattle.split_core.specs.Parts.{CutUp, uncut}

-- Here x is what came in of a text so far, and `size` is the size that the text has at its end.

-- where the chunk at a place begins, of n chunks of a text of this size; at place n, where the last chunk ends
abbrev pub chunk_start : ℕ → ℕ → ℕ → ℕ
chunk_start n size place = place * (size / n) + min place (size % n)

-- The bytes of a text before a place, or its lines that begin before it: all up to the last of these bytes, and on to
-- the end of the line in which that byte stands.
abbrev pub begun_before : Unit → ℕ → ℕ → List ℕ → List ℕ
begun_before Bytes delim place x = take place x
begun_before Lines delim zero x = []
begun_before Lines delim (suc place) x = take place x ++ first_lines delim 1 (drop place x)

-- what x has of the chunks before a place
abbrev pub before_chunk : Chunks → ℕ → ℕ → List ℕ → List ℕ
before_chunk chunks size place x =
    begun_before chunks.unit chunks.delim (chunk_start chunks.count size place) x

-- what x has of the chunk at a place
abbrev pub chunk_at : Chunks → ℕ → List ℕ → ℕ → List ℕ
chunk_at chunks size x place = drop (length (before_chunk chunks size place x)) (before_chunk chunks size (place + 1) x)

-- where later bytes go on: at the end of x, or at the beginning of its open line
abbrev pub open_from : Unit → ℕ → List ℕ → ℕ
open_from Bytes delim x = length x
open_from Lines delim x = length (first_lines delim (delimiters delim x) x)

-- whether chunks have whole lines and x ends within a line
abbrev pub is_within : Unit → ℕ → List ℕ → Bool
is_within unit delim x = nat_lt (open_from unit delim x) (length x)

-- what stands before this place gets no more bytes; once x has the size of the text, this is the end of the text
abbrev pub passed : Chunks → ℕ → List ℕ → ℕ
passed chunks size x = if nat_le size (length x) then size else open_from chunks.unit chunks.delim x

-- the chunk at a place and each chunk before it have all that goes with them
abbrev pub has_ended : Chunks → ℕ → List ℕ → ℕ → Bool
has_ended chunks size x place = nat_le (chunk_start chunks.count size (place + 1)) (passed chunks size x)

-- how many chunks have all that goes with them; these are the first chunks
abbrev pub ended : Chunks → ℕ → List ℕ → ℕ
ended chunks size x = length (filter (has_ended chunks size x) (range_with_len 0 chunks.count))

-- x cut up: the chunks that have all that goes with them, and what the next chunk has so far
abbrev pub chunks_within : Chunks → ℕ → List ℕ → CutUp
chunks_within chunks size x = record {
  full = map (chunk_at chunks size x) (range_with_len 0 (ended chunks size x));
  rest = chunk_at chunks size x (ended chunks size x);
}

-- x cut up, if its size is known; bytes after this size belong to no chunk
abbrev pub chunks_of : Chunks → ℕ → List ℕ → CutUp
chunks_of chunks size x = chunks_within chunks size (take size x)

-- What is decided once x came in. If the input showed its size, that is all of x. If not, the text may grow, and each
-- chunk with it. Then what stands before the chunk at the place `first`, at least 1, is decided, as one piece.
abbrev pub decided : Chunks → ℕ → Option ℕ → List ℕ → CutUp
decided chunks first None x = uncut (before_chunk chunks (length x) first x)
decided chunks first (Some size) x = chunks_of chunks size x

-- the size of a text: what the input showed, or else its length
abbrev pub size_by : Option ℕ → List ℕ → ℕ
size_by None x = length x
size_by (Some size) x = size

-- a whole text cut up
abbrev pub in_the_end : Chunks → Option ℕ → List ℕ → CutUp
in_the_end chunks said x = chunks_of chunks (size_by said x) x

-- the pieces of a text that is cut up: those that are full, and then the rest
abbrev pub pieces_in : CutUp → List (List ℕ)
pieces_in cut = cut.full ++ cut.rest ∷ []

-- what goes with each chunk of a whole text
abbrev pub chunks_in : Chunks → List ℕ → List (List ℕ)
chunks_in chunks x = (chunks_of chunks (length x) x).full

-- the byte at offset `at` is in the chunk at a place
abbrev pub IsInChunk : ℕ → ℕ → ℕ → ℕ → Type 0
IsInChunk n size place at = (chunk_start n size place ≤ at) × (at < chunk_start n size (place + 1))

-- the byte at offset `at` of all pieces joined is in the piece at a place
abbrev pub IsInPiece : List (List ℕ) → ℕ → ℕ → Type 0
IsInPiece pieces place at =
    (length (joined (take place pieces)) ≤ at) × (at < length (joined (take (place + 1) pieces)))

-- each piece has size / n bytes, and one more byte if its place is below size % n
abbrev pub AreEven : ℕ → List ℕ → List (List ℕ) → Type 0
AreEven n input pieces = (place : ℕ) → place < n
    → length (get_or pieces place []) ≡ length input / n + (if nat_lt place (length input % n) then 1 else 0)

-- the lines of the pieces are the lines of the input, in order: no line is cut
abbrev pub KeepLines : ℕ → List ℕ → List (List ℕ) → Type 0
KeepLines delim input pieces = flat_map (lines_of delim) pieces ≡ lines_of delim input

-- a line begins in the piece at the place of the chunk that has its first byte
abbrev pub BeginInChunks : ℕ → ℕ → List ℕ → List (List ℕ) → Type 0
BeginInChunks delim n input pieces = (place i : ℕ) → place < n → i < line_count delim input
    → IsInChunk n (length input) place (length (first_lines delim i input))
    → IsInPiece pieces place (length (first_lines delim i input))

-- what isn't decided yet: nothing if the input showed its size, and else all after `before_chunk`
abbrev pub undecided : Chunks → ℕ → Option ℕ → List ℕ → List ℕ
undecided chunks first None x = drop (length (before_chunk chunks (length x) first x)) x
undecided chunks first (Some size) x = []

-- x has the size that the input showed, if it showed one
abbrev pub is_as_said : Option ℕ → List ℕ → Bool
is_as_said None x = true
is_as_said (Some size) x = length x == size

-- x has more bytes than the input showed
abbrev pub is_longer : Option ℕ → List ℕ → Bool
is_longer None x = false
is_longer (Some size) x = nat_lt size (length x)
