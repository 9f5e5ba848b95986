-- A text in blocks.
use Rattle.std.specs.Prelude.{◌≡◌, ℕ, ◌^◌, ◌<◌, ◌≤◌, List, [], ◌∷◌, ◌++◌, length, All}
use Rattle.seg_core.specs.Line.{delimiters, line_count}

-- a run of bytes, and how many of them were counted as delimiters
pub record BlockState : Type 0 where
  pub bytes : List ℕ
  pub count : ℕ

-- the bytes of the blocks, one block after another
abbrev pub text_of : List BlockState → List ℕ
text_of [] = []
text_of (block ∷ blocks) = block.bytes ++ text_of blocks

-- the block's count is right
abbrev pub HasCount : ℕ → BlockState → Type 0
HasCount delim block = block.count ≡ delimiters delim block.bytes

abbrev pub HaveCounts : ℕ → List BlockState → Type 0
HaveCounts delim blocks = All (HasCount delim) blocks

-- what a window over lines knows of its blocks: at most `most` lines, fewer than 2^63 bytes, `len` bytes, and counts
-- that are right
pub record IsCounted (delim most : ℕ) (blocks : List BlockState) (len count : ℕ) : Type 0 where
  pub few : line_count delim (text_of blocks) ≤ most
  pub fits : length (text_of blocks) < 2 ^ 63
  pub long : len ≡ length (text_of blocks)
  pub counted : count ≡ delimiters delim (text_of blocks)
  pub each : HaveCounts delim blocks
