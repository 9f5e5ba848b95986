-- What private calls say: the last lines of a text.
use Rattle.std.specs.Prelude.{ℕ, ◌-◌, List}
use Rattle.seg_core.specs.Line.{after_lines, line_count}

-- the last n lines of a text, or all of it if it has fewer
abbrev pub last_lines : ℕ → ℕ → List ℕ → List ℕ
last_lines delim n x = after_lines delim (line_count delim x - n) x
