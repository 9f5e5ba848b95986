-- What private calls say: a table of sets of a code's numbers, which says to which set a byte leads.
use Rattle.std.specs.{
  Prelude.{◌≡◌, ◌⊎◌, ◌↔◌, ℕ, zero, suc, ◌+◌, ◌*◌, ◌<◌, ◌≤◌, Bool, true, false, IsTrue, List, length, slice_index_or},
}
use Rattle.scan_core.specs.{
  declared.{node.Node.Node, table.{State.State, Table.Table}},
  Code.{Entered, weight},
  Sets.{IsMarked, positions_among},
  inner.Sets.{FlowsOn, StepsBy, Reaches},
  Counted.{set_at, AreSteps},
}

-- a byte leads from a number of a set to this number, or number 0 does, and then steps without a byte
abbrev pub Next : List Node → (byte : ℕ) → (ℕ → Type 0) → (number : ℕ) → Type 0
Next code byte Set number = (from : ℕ) × (((before : ℕ) × Set before × StepsBy code byte before from) ⊎ (from ≡ 0))
    × FlowsOn code false false from number

-- a number is entered at a place that isn't the line's last
abbrev pub Inner : List Node → List ℕ → (place number : ℕ) → Type 0
Inner code line zero number = Reaches code line 0 true false number
Inner code line (suc place) number = Reaches code line (suc place) false false number

abbrev pub InSets : List (List Bool) → (state number : ℕ) → Type 0
InSets sets state number = IsMarked (set_at sets state) number

-- a state's entry for a byte
abbrev pub entry : List ℕ → (state byte : ℕ) → ℕ
entry rows state byte = slice_index_or rows (state * 256 + byte) 0

-- what an entry says of a state's set and a byte is true
pub record Tells (code : List Node) (sets : List (List Bool)) (state byte read : ℕ) : Type 0 where
  pub next : read < 65534 → (read < length sets)
      × ((number : ℕ) → InSets sets read number ↔ Next code byte (InSets sets state) number)
  pub stop : read ≡ 65535 → Next code byte (InSets sets state) (length code)

-- what is noted of a state is true of its set
pub record IsState (code : List Node) (sets : List (List Bool)) (rows : List ℕ) (number : ℕ)
    (state : State) : Type 0 where
  pub positions : state.positions ≡ positions_among code (set_at sets number)
  pub is_fixed : IsTrue state.is_fixed → (byte : ℕ) → byte < 256 → entry rows number byte ≡ number
  pub last : List Bool
  pub last_exact : (to : ℕ) → IsMarked last to
      ↔ ((from : ℕ) × InSets sets number from × FlowsOn code false true from to)
  pub last_positions : state.last_positions ≡ positions_among code last
  pub ends : IsTrue state.ends ↔ IsMarked last (length code)

abbrev pub no_state : State
no_state = record { positions = 0; last_positions = 0; ends = false; is_fixed = false }

-- each entry and each note of the table is true
pub record IsTableOf (code : List Node) (sets : List (List Bool)) (table : Table) : Type 0 where
  pub few : length code ≤ 65536
  pub some : 0 < length sets
  pub most : length sets < 65534
  pub rows : length table.rows.items ≡ length sets * 256
  pub states : length table.states.items ≡ length sets
  pub front : (number : ℕ) → InSets sets 0 number ↔ FlowsOn code true false 0 number
  pub none : (state : ℕ) → state < length sets → InSets sets state (length code) → ⊥
  pub told : (state byte : ℕ) → state < length sets → byte < 256
      → Tells code sets state byte (entry table.rows.items state byte)
  pub noted : (state : ℕ) → state < length sets
      → IsState code sets table.rows.items state (slice_index_or table.states.items state no_state)

abbrev pub IsTable : List Node → Table → Type 0
IsTable code table = (sets : List (List Bool)) × IsTableOf code sets table

-- no match ended before a place, and the positions of the places before it were counted
pub record IsCounted (code : List Node) (line : List ℕ) (place steps : ℕ) : Type 0 where
  pub none : (before : ℕ) → before < place → Entered code line (length code) before → ⊥
  pub counted : AreSteps code line place steps
  pub bound : steps ≤ place * (weight code + 1)

-- the line was read up to a place with the table
pub record Walked (code : List Node) (sets : List (List Bool)) (line : List ℕ) (place state steps : ℕ) : Type 0 where
  pub within : place ≤ length line
  pub known : state < length sets
  pub exact : (number : ℕ) → InSets sets state number ↔ Inner code line place number
  pub so_far : IsCounted code line place steps
