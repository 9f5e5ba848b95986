-- The lines of a text. A text is a list of bytes. A line ends with a delimiter: a byte that is chosen once for the
-- text, and that the definitions have as their first argument. The lines of POSIX end with the newline, byte 10.
use Rattle.std.specs.{
  Prelude.{◌≡◌, ◌≢◌, ℕ, ◌+◌, ◌-◌, ◌<◌, ◌≤◌, ◌==◌, Bool, true, false, List, [], ◌∷◌, ◌++◌, ◌⊎◌},
  Prelude.{if◌then◌else◌, length},
  Prelude.{take, drop},
  List.onto_first,
}
use Rattle.seg_core.specs.declared.line_reach.{Reach.{Reach, TheVariants.{Ends, Short}}, ReachBack.ReachBack}
use Rattle.seg_core.specs.declared.line_reach.ReachBack.TheVariants as back

-- lines, one after another
abbrev pub joined : List (List ℕ) → List ℕ
joined [] = []
joined (line ∷ lines) = line ++ joined lines

-- the bytes have no delimiter
abbrev pub HasNone : ℕ → List ℕ → Type 0
HasNone delim [] = Unit {0}
HasNone delim (byte ∷ bytes) = (byte ≢ delim) × HasNone delim bytes

-- the line ends with a delimiter, and has no other
abbrev pub IsComplete : ℕ → List ℕ → Type 0
IsComplete delim line = (text : List ℕ) × (line ≡ text ++ delim ∷ []) × HasNone delim text

-- the line lacks its delimiter, and isn't empty
abbrev pub IsOpen : ℕ → List ℕ → Type 0
IsOpen delim line = (0 < length line) × HasNone delim line

-- each line except the last is complete, and the last is complete or open
abbrev pub AreLines : ℕ → List (List ℕ) → Type 0
AreLines delim [] = Unit {0}
AreLines delim (line ∷ []) = IsComplete delim line ⊎ IsOpen delim line
AreLines delim (line ∷ next ∷ lines) = IsComplete delim line × AreLines delim (next ∷ lines)

-- the lines of x: joined they are x, no line is empty, a delimiter is always the last byte of its line, and only the
-- last line may lack its delimiter
pub record IsLines (delim : ℕ) (x : List ℕ) (lines : List (List ℕ)) : Type 0 where
  pub whole : joined lines ≡ x
  pub each : AreLines delim lines

-- the only list for which `IsLines` is true
abbrev pub lines_of : ℕ → List ℕ → List (List ℕ)
lines_of delim [] = []
lines_of delim (byte ∷ bytes) = if byte == delim then (byte ∷ []) ∷ lines_of delim bytes
    else onto_first byte (lines_of delim bytes)

-- how often the delimiter stands in a text, and so how many complete lines it has
abbrev pub delimiters : ℕ → List ℕ → ℕ
delimiters delim [] = 0
delimiters delim (byte ∷ bytes) = if byte == delim then delimiters delim bytes + 1 else delimiters delim bytes

abbrev pub ends_with : ℕ → List ℕ → Bool
ends_with delim [] = false
ends_with delim (byte ∷ []) = byte == delim
ends_with delim (byte ∷ next ∷ bytes) = ends_with delim (next ∷ bytes)

-- the first n lines of a text, or all of it if it has fewer
abbrev pub first_lines : ℕ → ℕ → List ℕ → List ℕ
first_lines delim n x = joined (take n (lines_of delim x))

-- how many lines a text has; an open last line counts
abbrev pub line_count : ℕ → List ℕ → ℕ
line_count delim x = length (lines_of delim x)

-- what stands after the first n lines of a text
abbrev pub after_lines : ℕ → ℕ → List ℕ → List ℕ
after_lines delim n x = joined (drop n (lines_of delim x))

-- what stands before the last n lines of a text
abbrev pub but_last_lines : ℕ → ℕ → List ℕ → List ℕ
but_last_lines delim n x = first_lines delim (line_count delim x - n) x

-- the first n lines of the text are complete, and they are its first `end` bytes
pub record EndsAt (delim n : ℕ) (x : List ℕ) (end : ℕ) : Type 0 where
  pub within : end ≤ length x
  pub lines : take end x ≡ first_lines delim n x
  pub complete : delimiters delim (take end x) ≡ n

-- the text has `count` complete lines, fewer than n
pub record FallsShort (delim n : ℕ) (x : List ℕ) (count : ℕ) : Type 0 where
  pub counted : count ≡ delimiters delim x
  pub fewer : count < n

-- where the first n lines of a text end, if they are complete
abbrev pub Reaches : ℕ → ℕ → List ℕ → Reach → Type 0
Reaches delim n x (Ends end) = EndsAt delim n x end
Reaches delim n x (Short count) = FallsShort delim n x count

-- the n-th delimiter from the end is the last byte before `at`
pub record BeginsAt (delim n : ℕ) (x : List ℕ) (at : ℕ) : Type 0 where
  pub within : at ≤ length x
  pub after : ends_with delim (take at x) ≡ true
  pub counted : delimiters delim (drop at x) + 1 ≡ n

-- where the text after the n-th delimiter from the end begins, if there is one
abbrev pub ReachesBack : ℕ → ℕ → List ℕ → ReachBack → Type 0
ReachesBack delim n x (back.Begins at) = BeginsAt delim n x at
ReachesBack delim n x (back.Short count) = FallsShort delim n x count

-- the last delimiter of the text ends at `end`: all complete lines stand before this place, and an open last line or
-- nothing stands after it
pub record LastEndsAt (delim : ℕ) (x : List ℕ) (end : ℕ) : Type 0 where
  pub some : 0 < end
  pub within : end ≤ length x
  pub delimiter : 0 < delimiters delim x
  pub complete : take end x ≡ first_lines delim (delimiters delim x) x
  pub after : drop end x ≡ after_lines delim (delimiters delim x) x
  pub none_after : delimiters delim (drop end x) ≡ 0

-- an iterator that has the lines of a text still to give
pub record LinesLeft : Type 0 where
  pub delim : ℕ
  pub text : List ℕ

abbrev pub lines_left : LinesLeft → List (List ℕ)
lines_left left = lines_of left.delim left.text
