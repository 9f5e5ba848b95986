-- How often an operand is performed again, by the words after it; and the nearest line number.
use Rattle.std.specs.Prelude.{◌≡◌, ℕ, List, [], ◌∷◌, Some, None}
use Rattle.operand_core.specs.{Operand.{Target, Number, Search, Times, Count}, Word.spelling, Reading.times_by}

abbrev pub least_by : (least : ℕ) → Target → ℕ
least_by least (Number n) = n
least_by least (Search pattern kept offset) = least

-- the words after an operand say how often it is performed again: the first word says it, or no word does
pub data SayTimes : List (List ℕ) → Times → (said : ℕ) → Type 0 where
  no_word : SayTimes [] (Count 0) 0
  again : (word : List ℕ) (words : List (List ℕ)) (times : Times) → times_by (spelling word) ≡ Some times
      → SayTimes (word ∷ words) times 1
  other : (word : List ℕ) (words : List (List ℕ)) → times_by (spelling word) ≡ None
      → SayTimes (word ∷ words) (Count 0) 0
