-- What numbers lead to without a byte, ready to be looked up.
use Rattle.std.specs.{
  Prelude.{◌≡◌, ◌⊎◌, ◌↔◌, ℕ, ◌+◌, ◌*◌, ◌/◌, ◌%◌, ◌^◌, ◌<◌, Bool, false, IsFalse, List, length},
  Int.bit_at,
}
use Rattle.scan_core.specs.{
  declared.{closures.Closures.Closures, node.Node.Node},
  inner.{Each.AreEach, Hops.AreParted, Sets.{Flows, FlowsOn}, Words.{IsIn, width}},
}

-- the words have exactly what number 0 leads to, at a line's front or elsewhere
pub record IsBegun (code : List Node) (at_first : Bool) (words : List ℕ) : Type 0 where
  pub size : length words ≡ width code
  pub exact : (number : ℕ) → IsIn words number ↔ FlowsOn code at_first false 0 number

-- the words have what is in every set
abbrev pub IsBase : List Node → List ℕ → Type 0
IsBase code = IsBegun code false

-- if a number of a word leads out of a set, its bit is 1
abbrev pub IsLeading : List Node → List ℕ → (at word : ℕ) → Type 0
IsLeading code words at word = (bit : ℕ) (to : ℕ) → bit < 64 → Flows code false false (at * 64 + bit) to
    → (bit_at word bit ≡ 1) ⊎ IsIn words to

-- a number leads to no more at a line's front or end than elsewhere
abbrev pub IsPlain : List Node → ℕ → Type 0
IsPlain code from = (at_first at_last : Bool) (to : ℕ) → Flows code at_first at_last from to
    → Flows code false false from to

-- a step without a byte to a number of the same word
abbrev pub Stays : List Node → (from to : ℕ) → Type 0
Stays code from to = Flows code false false from to × (to / 64 ≡ from / 64)

-- `all` has what the chosen numbers of a word lead to within it
pub record Closes (code : List Node) (at chosen all : ℕ) : Type 0 where
  pub kept : (bit : ℕ) → bit < 64 → bit_at chosen bit ≡ 1 → bit_at all bit ≡ 1
  pub from_chosen : (number : ℕ) → number < 64 → bit_at all number ≡ 1 → (bit : ℕ) × (bit < 64)
      × (bit_at chosen bit ≡ 1) × FlowsOn code false false (at * 64 + bit) (at * 64 + number)
  pub closed : (number to : ℕ) → number < 64 → to < 64 → bit_at all number ≡ 1
      → Flows code false false (at * 64 + number) (at * 64 + to) → bit_at all to ≡ 1

-- the numbers for which a place of the table is made: some of eight numbers of a word
abbrev pub chosen_at : ℕ → ℕ
chosen_at place = place % 256 * 2 ^ (place / 256 % 8 * 8) % 2 ^ 64

abbrev pub IsInside : List Node → (place entry : ℕ) → Type 0
IsInside code place entry = Closes code (place / 2048) (chosen_at place) entry

pub record AreClosures (code : List Node) (closures : Closures) : Type 0 where
  pub base : IsBase code closures.base.items
  pub leads : AreEach 0 (IsLeading code closures.base.items) (width code) closures.leads.items
  pub inside : AreEach 0 (IsInside code) (width code * 2048) closures.inside.items
  pub hops : AreParted code closures.base.items closures.hops
  pub plain : IsFalse closures.is_anchored → (number : ℕ) → IsPlain code number
