-- Tables of stretches of a line, with which the value of `contains` is found.
use Rattle.std.specs.{
  Prelude.{◌≡◌, ℕ, suc, ◌+◌, ◌≤◌, Bool, false, ◌==◌, ◌&&◌, nat_le, List, [], slice_index_or, Option},
}
use Rattle.bre_core.specs.{
  declared.token.Token.{Token, TheVariants.{Set, Front, End}},
  Pattern.{set, front, end},
  Search.{any_below, is_at_most, matches_item},
}

-- whether a stretch leads from one place to another
abbrev pub at : List (List Bool) → (from to : ℕ) → Bool
at rows from to = slice_index_or (slice_index_or rows from []) to false

-- the table says of each two places of a line of this length what the test says
pub record IsTable (len : ℕ) (test : ℕ → ℕ → Bool) (rows : List (List Bool)) : Type 0 where
  pub exact : (from to : ℕ) → from ≤ len → to ≤ len → at rows from to ≡ test from to

-- the stretch of one token; `Open` is the empty concatenation
abbrev pub leaf : Token → List ℕ → (from to : ℕ) → Bool
leaf (Set bytes) line from to = matches_item (set bytes) line from to
leaf Front line from to = matches_item front line from to
leaf End line from to = matches_item end line from to
leaf token line from to = from == to

-- a stretch of the first test, and then a stretch of the second
abbrev pub joined : (first second : ℕ → ℕ → Bool) → (from to : ℕ) → Bool
joined first second from to = any_below (suc to) (λ middle. first from middle && second middle to)

-- a stretch of low to high parts, if `runs` says it of each number of parts
abbrev pub repeats : (ℕ → ℕ → ℕ → Bool) → (low : ℕ) → Option ℕ → (from to : ℕ) → Bool
repeats runs low high from to =
    any_below (suc (low + to)) (λ count. nat_le low count && (is_at_most high count && runs count from to))
