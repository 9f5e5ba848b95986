-- Where the bytes of an input go: `head` and `tail` write one stretch of it to standard output, and nothing else.
use Rattle.std.specs.Prelude.{ℕ, ◌-◌, nat_lt, Bool, List, [], ◌∷◌, length, if◌then◌else◌}
use Rattle.engine_core.specs.Agreed.{Spot, spots_from}
use Rattle.seg_core.specs.declared.unit.Unit.{Unit as Counted}
use Rattle.ends_core.specs.{Ends.{head_of, tail_of}, Shown.bytes_between}

-- where byte i goes: a head is the beginning of its input
abbrev pub head_spots : ℕ → Counted → Bool → ℕ → List ℕ → ℕ → List Spot
head_spots delim unit but_last n x i = spots_from 0 (head_of delim unit but_last n x ∷ []) i

-- how many bytes stand before a tail
abbrev pub skipped : ℕ → Counted → Bool → ℕ → List ℕ → ℕ
skipped delim unit from_nth n x = length x - length (tail_of delim unit from_nth n x)

-- where byte i goes: a tail is the end of its input
abbrev pub tail_spots : ℕ → Counted → Bool → ℕ → List ℕ → ℕ → List Spot
tail_spots delim unit from_nth n x i =
    if nat_lt i (skipped delim unit from_nth n x) then []
    else spots_from 0 (tail_of delim unit from_nth n x ∷ []) (i - skipped delim unit from_nth n x)

-- where byte i goes, if the bytes between two places are written
abbrev pub between_spots : ℕ → ℕ → List ℕ → ℕ → List Spot
between_spots from end x i =
    if nat_lt i from then [] else spots_from 0 (bytes_between from end x ∷ []) (i - from)
