-- How a window over bytes has room for what it holds.
use Rattle.std.specs.Prelude.{◌≡◌, ℕ, ◌≤◌, Bool, true, length}
use Rattle.circular_buffer.specs.Buffer.{Buffer}

pub record HasRoom (most : ℕ) (ring : Buffer ℕ) (grown : Bool) : Type 0 where
  pub fits : length ring.items ≤ ring.capacity
  pub bound : ring.capacity ≤ most
  -- if it once held `most` bytes, it has room for as many
  pub whole : grown ≡ true → ring.capacity ≡ most
  pub full : length ring.items ≡ most → grown ≡ true
