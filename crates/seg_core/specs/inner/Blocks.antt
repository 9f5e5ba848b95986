-- What private calls say: a text in blocks.
use Rattle.std.specs.Prelude.{◌≡◌, ℕ, ◌+◌, List, [], ◌∷◌, ◌++◌, length}
use Rattle.seg_core.specs.Blocks.{BlockState, text_of}

abbrev pub first_of : List BlockState → List ℕ
first_of [] = []
first_of (block ∷ blocks) = block.bytes

-- how many delimiters were counted in the blocks
abbrev pub count_of : List BlockState → ℕ
count_of [] = 0
count_of (block ∷ blocks) = block.count + count_of blocks

-- Of `blocks`, n bytes are to go, and whole blocks are gone. `left` are the other blocks. Of the n bytes, `bytes` are
-- still to go. In the blocks that are gone `count` delimiters were counted.
pub record Gone (n : ℕ) (blocks left : List BlockState) (bytes count : ℕ) : Type 0 where
  pub gone : List BlockState
  pub whole : blocks ≡ gone ++ left
  pub long : n ≡ length (text_of gone) + bytes
  pub counted : count ≡ count_of gone
