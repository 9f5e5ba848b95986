-- What contracts see of a tee.
use Rattle.std.specs.Prelude.{ℕ, Bool}

pub record TeeState : Type 0 where
  -- the slot of its first file; the other files follow
  pub first : ℕ
  -- how many files there are
  pub count : ℕ
  -- whether it was closed
  pub is_over : Bool
