-- A pattern's code: a list of nodes, each at its number. The number after the last node is the pattern's end.
use Rattle.std.specs.{
  Prelude.{◌≡◌, ◌⊎◌, ℕ, zero, suc, ◌+◌, ◌-◌, ◌<◌, ◌≤◌, IsTrue, List, [], ◌∷◌, ◌++◌, length, slice_index},
  Prelude.{Option, Some},
  Prelude.None,
}
use Rattle.bre_core.specs.{
  ByteSet.has,
  Match.IsAtMost,
  Pattern.{Pattern, nothing, append, Item, set, front, end, group, repeat},
}
use Rattle.scan_core.specs.declared.node.Node.{Node, TheVariants.{Take, First, Last, Choose, Back}}

-- the node at a number
abbrev pub At : List Node → ℕ → Node → Type 0
At [] number node = ⊥
At (head ∷ rest) zero node = node ≡ head
At (head ∷ rest) (suc number) node = At rest number node

-- a node that is entered at a place of the line leads to another node and place
abbrev pub Leads : Node → List ℕ → (at place at' place' : ℕ) → Type 0
Leads (Take bytes) line at place at' place' = (at' ≡ at + 1) × (place' ≡ place + 1) × (place < length line)
    × IsTrue (has bytes (slice_index line place))
Leads First line at place at' place' = (at' ≡ at + 1) × (place' ≡ place) × (place ≡ 0)
Leads Last line at place at' place' = (at' ≡ at + 1) × (place' ≡ place) × (place ≡ length line)
Leads (Choose skip) line at place at' place' = ((at' ≡ at + 1) ⊎ (at' ≡ at + skip)) × (place' ≡ place)
Leads (Back by) line at place at' place' = (at ≡ at' + by) × (place' ≡ place)

abbrev pub Goes : List Node → List ℕ → (at place at' place' : ℕ) → Type 0
Goes code line at place at' place' = (node : Node) × At code at node × Leads node line at place at' place'

-- a walk of `count` steps
abbrev pub Walks : List Node → List ℕ → (count at place to stop : ℕ) → Type 0
Walks code line zero at place to stop = (at ≡ to) × (place ≡ stop)
Walks code line (suc count) at place to stop = (at' : ℕ) × (place' : ℕ) × Goes code line at place at' place'
    × Walks code line count at' place' to stop

abbrev pub Path : List Node → List ℕ → (at place to stop : ℕ) → Type 0
Path code line at place to stop = (count : ℕ) × Walks code line count at place to stop

-- the nodes of an item that may be left out
abbrev pub maybe : List Node → List Node
maybe code = Choose (length code + 1) ∷ code

-- the nodes of an item any number of times
abbrev pub starred : List Node → List Node
starred code = Choose (length code + 2) ∷ (code ++ Back (length code + 1) ∷ [])

-- the nodes of an item up to `count` times
abbrev pub up_to : ℕ → List Node → List Node
up_to zero code = []
up_to (suc count) code = maybe (code ++ up_to count code)

-- the nodes of an item `count` times
abbrev pub copies : ℕ → List Node → List Node
copies zero code = []
copies (suc count) code = copies count code ++ code

abbrev pub tail_of : List Node → ℕ → Option ℕ → List Node
tail_of code low None = starred code
tail_of code low (Some high) = up_to (high - low) code

abbrev mutual
  pub code_of : Pattern → List Node
  code_of nothing = []
  code_of (append pattern item) = code_of pattern ++ code_of_item item

  pub code_of_item : Item → List Node
  code_of_item (set bytes) = Take bytes ∷ []
  code_of_item front = First ∷ []
  code_of_item end = Last ∷ []
  code_of_item (group pattern) = code_of pattern
  code_of_item (repeat item low high) = copies low (code_of_item item) ++ tail_of (code_of_item item) low high

-- a walk from number 0, begun at some place of the line, enters this number at this place
abbrev pub Entered : List Node → List ℕ → (number place : ℕ) → Type 0
Entered code line number place = (from : ℕ) × (from ≤ length line) × Path code line 0 from number place

-- no repetition's least count is above its greatest
abbrev mutual
  pub IsOrdered : Pattern → Type 0
  IsOrdered nothing = Unit {0}
  IsOrdered (append pattern item) = IsOrdered pattern × IsOrderedItem item

  pub IsOrderedItem : Item → Type 0
  IsOrderedItem (set bytes) = Unit {0}
  IsOrderedItem front = Unit {0}
  IsOrderedItem end = Unit {0}
  IsOrderedItem (group pattern) = IsOrdered pattern
  IsOrderedItem (repeat item low high) = IsOrderedItem item × IsAtMost high low

-- how many positions a node is: a step back is none
abbrev pub weight_of : Node → ℕ
weight_of (Take bytes) = 1
weight_of First = 1
weight_of Last = 1
weight_of (Choose skip) = 1
weight_of (Back by) = 0

-- how many nodes are positions
abbrev pub weight : List Node → ℕ
weight [] = 0
weight (node ∷ code) = weight_of node + weight code
