-- What private calls say: all that follows without a byte is entered, by words that are closed and by hops.
use Rattle.std.specs.{Prelude.{◌≡◌, ◌⊎◌, ℕ, ◌+◌, ◌*◌, ◌/◌, ◌<◌, ◌≤◌, false, List, slice_index_or}, Int.bit_at}
use Rattle.scan_core.specs.{
  declared.{closures.Closures.Closures, hops.{Hop.Hop, Hops.Hops}, node.Node.Node},
  inner.{Hops.{PartsTo, end_of, no_hop}, Sets.Flows, Words.{Adds, IsIn, unset}},
}

-- each step from a set leads into the set, or a hop leads there
abbrev pub IsApart : List Node → Hops → List ℕ → Type 0
IsApart code hops words = (from to : ℕ) → IsIn words from → Flows code false false from to
    → IsIn words to ⊎ PartsTo hops.onward.items hops.landings.items (from / 64) to

-- only numbers to which old numbers lead were added, and some were unless `over` is 0
pub record Closer (code : List Node) (hops : Hops) (old new : List ℕ) (over : ℕ) : Type 0 where
  pub adds : Adds code false false old new
  pub apart : IsApart code hops new
  pub fuller : unset new ≤ unset old
  pub less : (over ≡ 0 → ⊥) → unset new < unset old

-- where this hop leads from a number of `old` is in `new`
abbrev pub IsFollowed : (old new : List ℕ) → Hop → Type 0
IsFollowed old new hop = (bit : ℕ) → bit < 64 → bit_at hop.from bit ≡ 1 → IsIn old (hop.at * 64 + bit)
    → IsIn new (end_of hop)

-- a hop was followed; if `over` is 0, no number is new
pub record Follows (code : List Node) (closures : Closures) (hop : Hop) (old new : List ℕ) (over : ℕ) : Type 0 where
  pub closer : Closer code closures.hops old new over
  pub followed : IsFollowed old new hop
  pub settled : over ≡ 0 → (number : ℕ) → IsIn new number → IsIn old number

-- the first `count` hops were followed; if `over` is 0, the set has all that these hops lead to from it
pub record FollowsFirst (code : List Node) (closures : Closures) (old new : List ℕ) (count over : ℕ) : Type 0 where
  pub closer : Closer code closures.hops old new over
  pub done : over ≡ 0 → (place : ℕ) → place < count
      → IsFollowed new new (slice_index_or closures.hops.onward.items place no_hop)

-- the first landings were followed, and each number that was added leads only to what is in every set
pub record LandsFirst (code : List Node) (base : List ℕ) (landings : List Hop) (old new : List ℕ) (count : ℕ)
    : Type 0 where
  pub adds : Adds code false false old new
  pub over : (number : ℕ) → IsIn new number
      → IsIn old number ⊎ ((to : ℕ) → Flows code false false number to → IsIn base to)
  pub led : (place : ℕ) → place < count → IsFollowed old new (slice_index_or landings place no_hop)
