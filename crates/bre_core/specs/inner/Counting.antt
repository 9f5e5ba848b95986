-- How positions are counted while tokens are read: up to a cap, one concatenation inside another.
use Rattle.std.specs.Prelude.{◌≡◌, ℕ, ◌+◌, ◌<◌, ◌≤◌, min, List, [], ◌∷◌, ◌++◌, length}
use Rattle.bre_core.specs.{
  declared.{
    fault.BreFault.{BreFault, TheVariants.{CloseGroup, TooLarge, Memory}},
    token.Token.{Token, TheVariants.{Set, Front, End, Open, Close, Repeat}},
    counting.{Count.Count, Group.Group},
  },
  Pattern.repeated,
}

-- a count that stops at 65,536, one above the most positions that a pattern may have
abbrev pub capped : ℕ → ℕ
capped count = min count 65536

-- a token was taken: the open groups and the count of the innermost concatenation, before and after it
abbrev pub Took : Token → (groups : List Group) → (count : Count) → (groups' : List Group) → (count' : Count) → Type 0
Took (Set bytes) groups count groups' count' = (groups' ≡ groups) × (count'.before ≡ capped (count.before + count.last))
    × (count'.last ≡ 1)
Took Front groups count groups' count' = (groups' ≡ groups) × (count'.before ≡ capped (count.before + count.last))
    × (count'.last ≡ 1)
Took End groups count groups' count' = (groups' ≡ groups) × (count'.before ≡ capped (count.before + count.last))
    × (count'.last ≡ 1)
Took Open groups count groups' count' =
    (group : Group) × (groups' ≡ groups ++ group ∷ []) × (group.before ≡ capped (count.before + count.last))
    × (length groups < 255) × (count'.before ≡ 0) × (count'.last ≡ 0)
Took Close groups count groups' count' =
    (group : Group) × (groups ≡ groups' ++ group ∷ []) × (count'.before ≡ group.before)
    × (count'.last ≡ capped (count.before + count.last))
Took (Repeat low high) groups count groups' count' =
    (groups' ≡ groups) × (count'.before ≡ count.before) × (count'.last ≡ capped (repeated count.last low high))

-- why a token is not taken
abbrev pub IsRefusal : Token → List Group → BreFault → Type 0
IsRefusal token groups Memory = Unit {0}
IsRefusal token groups TooLarge = (token ≡ Open) × (255 ≤ length groups)
IsRefusal token groups (CloseGroup offset) = (token ≡ Close) × (groups ≡ [])
IsRefusal token groups _ = ⊥
