-- A table of few states as words, and a walk along a line with it.
use Rattle.std.specs.Prelude.{◌≡◌, ℕ, ◌+◌, ◌*◌, ◌/◌, ◌%◌, ◌^◌, ◌<◌, ◌≤◌, Bool, List, length, slice_index_or}
use Rattle.scan_core.specs.{
  declared.{node.Node.Node, shift_table.ShiftTable.ShiftTable, table.{State.State, Table.Table}},
  Code.weight,
  Counted.HasStepsBefore,
  inner.{Each.AreEach, Table.{entry, no_state, IsTable, IsTableOf, Walked}},
}

-- no entry is unknown
abbrev pub IsComplete : List ℕ → Type 0
IsComplete rows = (at : ℕ) → at < length rows → 65534 ≤ slice_index_or rows at 0 → slice_index_or rows at 0 ≡ 65535

-- how the next state after a byte is written; every number beyond the states stands for the pattern's end
pub record IsOffset (rows : List ℕ) (count state byte offset : ℕ) : Type 0 where
  pub next : state < count → entry rows state byte < count → offset ≡ 6 * entry rows state byte
  pub stop : (state < count → count ≤ entry rows state byte) → offset ≡ 6 * count

-- the six bits of a word for a state
abbrev pub six_bits : (word state : ℕ) → ℕ
six_bits word state = word / 2 ^ (6 * state) % 64

abbrev pub IsWord : List ℕ → (count byte word : ℕ) → Type 0
IsWord rows count byte word = (state : ℕ) → state ≤ count → IsOffset rows count state byte (six_bits word state)

-- no state has more positions than the largest pattern
abbrev pub AreLight : List State → Type 0
AreLight states = (state : ℕ) → state < length states → (slice_index_or states state no_state).positions ≤ 65537

pub record IsWeight (states : List State) (offset weight : ℕ) : Type 0 where
  pub light : weight ≤ 65537
  pub exact : (state : ℕ) → state < length states → offset ≡ 6 * state
      → weight ≡ (slice_index_or states state no_state).positions
  pub stop : offset ≡ 6 * length states → weight ≡ 0

-- the sizes that reads rely on
pub record IsSized (shifts : ShiftTable) : Type 0 where
  pub words : length shifts.words.items ≡ 256
  pub weights : length shifts.weights.items ≡ 256
  pub light : (low : ℕ) → low < 256 → slice_index_or shifts.weights.items low 0 ≤ 65537

-- the words say what the table says
pub record IsShifted (table : Table) (shifts : ShiftTable) : Type 0 where
  pub few : length table.states.items ≤ 9
  pub complete : IsComplete table.rows.items
  pub words : AreEach 0 (IsWord table.rows.items (length table.states.items)) 256 shifts.words.items
  pub weights : AreEach 0 (λ low. IsWeight table.states.items (low % 64)) 256 shifts.weights.items
  pub states : shifts.states.items ≡ table.states.items
  pub stop : shifts.stop ≡ 6 * length table.states.items

abbrev pub IsShiftTable : List Node → ShiftTable → Type 0
IsShiftTable code shifts = (table : Table) × IsTable code table × IsShifted table shifts

-- the bytes before a place lead to this state of the table, or the end was entered
pub record IsStateAt (code : List Node) (table : Table) (line : List ℕ) (place state steps : ℕ) : Type 0 where
  pub within : place ≤ length line
  pub known : state ≤ length table.states.items
  pub going : state < length table.states.items → (sets : List (List Bool)) × IsTableOf code sets table
      × Walked code sets line place state steps
  pub over : state ≡ length table.states.items → HasStepsBefore code line steps
  pub bound : steps ≤ place * (weight code + 1)

-- the low six bits of a word are the state that the bytes before a place lead to
abbrev pub IsAt : List Node → ShiftTable → List ℕ → (place word steps : ℕ) → Type 0
IsAt code shifts line place word steps = (table : Table) × IsTable code table × IsShifted table shifts
    × ((state : ℕ) × (word % 64 ≡ 6 * state) × IsStateAt code table line place state steps)
