-- The lines of an input as operands see them. A line ends with a newline, byte 10, which isn't part of what a pattern
-- is matched with.
use Rattle.std.specs.Prelude.{ℕ, ◌==◌, Bool, false, List, [], ◌∷◌, map, take, if◌then◌else◌}
use Rattle.seg_core.specs.Line.{lines_of, delimiters, after_lines}
use Rattle.bre_core.specs.Search.{contains}
use Rattle.csplit_core.specs.Operand.{Target, Number, Search, Line}

-- the byte with which each line ends; the last line may lack it
abbrev pub newline : ℕ
newline = 10

abbrev pub without_newline : List ℕ → List ℕ
without_newline [] = []
without_newline (byte ∷ bytes) = if byte == newline then [] else byte ∷ without_newline bytes

-- whether the line contains the operand's pattern
abbrev pub is_match_of : (line : List ℕ) → Target → Bool
is_match_of line (Number n) = false
is_match_of line (Search pattern kept offset) = contains pattern (without_newline line)

abbrev pub marked : List ℕ → Line
marked line = record { text = line; marks = λ operand. is_match_of line operand.target }

-- all lines; the last line counts even without its newline
abbrev pub all_lines : List ℕ → List Line
all_lines x = map marked (lines_of newline x)

-- the lines that end with a newline
abbrev pub complete_lines : List ℕ → List Line
complete_lines x = map marked (take (delimiters newline x) (lines_of newline x))

-- what follows the last newline
abbrev pub open_line : List ℕ → List ℕ
open_line x = after_lines newline (delimiters newline x) x
