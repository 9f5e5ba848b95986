-- What private calls say: where the name at a place stands among names that widen.
use Rattle.std.specs.Prelude.{ℕ, ◌≡◌, ◌+◌, ◌<◌}
use Rattle.ports_core.specs.{declared.alphabet.Alphabet.Alphabet, Name.{before_block, block_size}}

-- the place is this number of a block, counted from 0
pub record IsInBlock (alphabet : Alphabet) (width place block number : ℕ) : Type 0 where
  pub place_is : before_block alphabet width block + number ≡ place
  pub within : number < block_size alphabet width block
