-- Lists of which each entry is what its place asks for.
use Rattle.std.specs.Prelude.{◌≡◌, ℕ, ◌<◌, List, length, slice_index_or}

-- `count` entries, each as its place asks for; beyond them is `none`
pub record AreEach {A : Type 0} (none : A) (Is : ℕ → A → Type 0) (count : ℕ) (list : List A) : Type 0 where
  pub size : length list ≡ count
  pub each : (place : ℕ) → place < count → Is place (slice_index_or list place none)
