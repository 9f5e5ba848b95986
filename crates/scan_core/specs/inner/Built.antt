-- A table that is being built.
use Rattle.std.specs.Prelude.{◌≡◌, ◌⊎◌, ◌↔◌, ℕ, ◌*◌, ◌/◌, ◌%◌, ◌<◌, ◌≤◌, Bool, true, false, List, [], ◌∷◌, ◌++◌, length}
use Rattle.bre_core.specs.ByteSet.{has}
use Rattle.scan_core.specs.{
  declared.{node.Node.{Node, TheVariants.Take}, build.Building.Building},
  Code.At,
  Counted.set_at,
  Sets.IsMarked,
  inner.{Each.AreEach, Sets.FlowsOn, Table.{InSets, Tells}, Words.{IsIn, flags_of, width}},
}

-- every node takes both bytes or neither
abbrev pub AreAlike : List Node → (one other : ℕ) → Type 0
AreAlike code one other = (number : ℕ) (bytes : List Bool) → At code number (Take bytes)
    → has bytes one ≡ has bytes other

-- a set without the pattern's end, as the flags of its words
pub record IsOpen (code : List Node) (set : List Bool) : Type 0 where
  pub size : length set ≡ 64 * width code
  pub going : IsMarked set (length code) → ⊥

-- a table so far: its sets, the first that of the line's front, and its first entries
pub record Built (code : List Node) (entries : ℕ) (sets : List (List Bool)) (rows : List ℕ) : Type 0 where
  pub some : 0 < length sets
  pub front : (number : ℕ) → InSets sets 0 number ↔ FlowsOn code true false 0 number
  pub going : AreEach [] (λ _. IsOpen code) (length sets) sets
  pub told : AreEach 0 (λ place. Tells code sets (place / 256) (place % 256)) entries rows

-- the first entries are made, and there are at most `most` sets
pub record IsBuilding (code : List Node) (most entries : ℕ) (building : Building) : Type 0 where
  pub built : Built code entries building.sets.items building.rows.items
  pub room : length building.sets.items ≤ most
  pub size : length building.words.items ≡ width code
  pub order : entries ≤ length building.sets.items * 256

-- an entry leads to a set, which may have been added to the others
pub record LeadsTo (last most : ℕ) (words : List ℕ) (old new : List (List Bool)) (read : ℕ) : Type 0 where
  pub sets : (new ≡ old) ⊎ ((new ≡ old ++ flags_of words ∷ []) × (IsIn words last → ⊥))
  pub room : length new ≤ most
  pub next : read < 65534 → (read < length new) × (set_at new read ≡ flags_of words)
  pub stop : read ≡ 65535 → IsIn words last

-- what a new entry says is true
pub record Led (code : List Node) (most place : ℕ) (building : Building) (read : ℕ) : Type 0 where
  pub so_far : IsBuilding code most place building
  pub known : place / 256 < length building.sets.items
  pub tells : Tells code building.sets.items (place / 256) (place % 256) read
