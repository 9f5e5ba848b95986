-- Hops: numbers of a word that lead to the same number outside of it.
use Rattle.std.specs.{Prelude.{◌≡◌, ◌⊎◌, ◌↔◌, ℕ, ◌+◌, ◌*◌, ◌/◌, ◌<◌, false, List, length, slice_index_or}, Int.bit_at}
use Rattle.scan_core.specs.{
  declared.{hops.{Hop.Hop, Hops.Hops}, node.Node.Node},
  inner.{Each.AreEach, Sets.Flows, Words.{IsIn, width}},
}

abbrev pub no_hop : Hop
no_hop = record { at = 0; from = 0; word = 0; bit = 0 }

-- the number to which a hop leads
abbrev pub end_of : Hop → ℕ
end_of hop = hop.word * 64 + hop.bit

-- a hop has exactly the numbers of its word that lead to its end
pub record IsHop (code : List Node) (hop : Hop) : Type 0 where
  pub at : hop.at < width code
  pub word : hop.word < width code
  pub bit : hop.bit < 64
  pub exact : (bit : ℕ) → bit < 64
      → (bit_at hop.from bit ≡ 1) ↔ Flows code false false (hop.at * 64 + bit) (end_of hop)

abbrev pub AreHops : List Node → List Hop → Type 0
AreHops code hops = AreEach no_hop (λ _. IsHop code) (length hops) hops

-- one of the hops leads from a word to a number
abbrev pub HopsTo : List Hop → (at to : ℕ) → Type 0
HopsTo hops at to = (place : ℕ) × (place < length hops) × ((slice_index_or hops place no_hop).at ≡ at)
    × (end_of (slice_index_or hops place no_hop) ≡ to)

-- a number is in the word or in every set, or a hop leads from the word to the number
abbrev pub Meets : List ℕ → List Hop → (at to : ℕ) → Type 0
Meets base hops at to = (to / 64 ≡ at) ⊎ (IsIn base to ⊎ HopsTo hops at to)

-- a hop to a number that leads only to what is in every set
pub record IsLanding (code : List Node) (base : List ℕ) (hop : Hop) : Type 0 where
  pub leads : IsHop code hop
  pub ends : (to : ℕ) → Flows code false false (end_of hop) to → IsIn base to

abbrev pub AreLandings : List Node → List ℕ → List Hop → Type 0
AreLandings code base landings = AreEach no_hop (λ _. IsLanding code base) (length landings) landings

-- a hop of either part leads from a word to a number
abbrev pub PartsTo : (onward landings : List Hop) → (at to : ℕ) → Type 0
PartsTo onward landings at to = HopsTo onward at to ⊎ HopsTo landings at to

-- all hops, in two parts
pub record AreParted (code : List Node) (base : List ℕ) (hops : Hops) : Type 0 where
  pub onward : AreHops code hops.onward.items
  pub landings : AreLandings code base hops.landings.items
  pub met : (number to : ℕ) → Flows code false false number to → (to / 64 ≡ number / 64)
      ⊎ (IsIn base to ⊎ PartsTo hops.onward.items hops.landings.items (number / 64) to)
