-- What the contracts see of a `Scan`.
use Rattle.std.specs.Prelude.{ℕ}

-- how many positions there is room for, and the steps of the last search
pub record ScanState : Type 0 where
  pub positions : ℕ
  pub steps : ℕ
