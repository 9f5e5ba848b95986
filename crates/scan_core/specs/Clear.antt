-- What is known of a text before its lines are matched.
use Rattle.std.specs.Prelude.{◌≡◌, ℕ, ◌+◌, ◌<◌, false, List, ◌++◌, length}
use Rattle.bre_core.specs.{Pattern.Pattern, Search.contains}

-- no stretch of the text that ends before this place, such as a line, contains a match
abbrev pub IsClear : Pattern → List ℕ → ℕ → Type 0
IsClear pattern text place = (before line after : List ℕ) → text ≡ before ++ line ++ after
    → length before + length line < place → contains pattern line ≡ false
