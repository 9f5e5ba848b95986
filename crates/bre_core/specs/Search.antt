-- Whether a line contains a match, as a truth value: all places and all counts that can matter are tried.
use Rattle.std.specs.{
  Prelude.{ℕ, zero, suc, ◌+◌, Bool, true, false, ◌==◌, ◌&&◌, ◌||◌, nat_le, nat_lt, List, length, slice_index, Option},
  Prelude.{Some, None},
}
use Rattle.bre_core.specs.{ByteSet.has, Pattern.{Pattern, nothing, append, Item, set, front, end, group, repeat}}

-- whether some number below a bound passes a test
abbrev pub any_below : ℕ → (ℕ → Bool) → Bool
any_below zero test = false
any_below (suc bound) test = any_below bound test || test bound

-- whether this many parts of a kind in a row lead from one place to another
abbrev pub has_parts : (part : ℕ → ℕ → Bool) → (count from to : ℕ) → Bool
has_parts part zero from to = from == to
has_parts part (suc count) from to = any_below (suc to) (λ middle. has_parts part count from middle && part middle to)

-- whether a count is within its bound, if there is a bound
abbrev pub is_at_most : Option ℕ → ℕ → Bool
is_at_most None count = true
is_at_most (Some high) count = nat_le count high

abbrev mutual
  -- whether a pattern matches the stretch from one place to another
  pub matches : Pattern → (line : List ℕ) → (from to : ℕ) → Bool
  matches nothing line from to = from == to
  matches (append pattern item) line from to =
      any_below (suc to) (λ middle. matches pattern line from middle && matches_item item line middle to)

  -- whether an item matches the stretch; of more than low + to repetitions some would be empty
  pub matches_item : Item → (line : List ℕ) → (from to : ℕ) → Bool
  matches_item (set bytes) line from to =
      (to == from + 1) && (nat_lt from (length line) && has bytes (slice_index line from))
  matches_item front line from to = (from == 0) && (to == 0)
  matches_item end line from to = (from == length line) && (to == length line)
  matches_item (group pattern) line from to = matches pattern line from to
  matches_item (repeat item low high) line from to =
      any_below (suc (low + to)) (λ count. nat_le low count
      && (is_at_most high count && has_parts (matches_item item line) count from to))

-- whether some stretch of the line matches
abbrev pub contains : Pattern → List ℕ → Bool
contains pattern line = any_below (suc (length line)) (λ to. any_below (suc to) (λ from. matches pattern line from to))
