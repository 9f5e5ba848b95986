-- What private calls say: where the nodes of a code lead.
use Rattle.std.specs.Prelude.{◌≡◌, ◌⊎◌, ℕ, ◌+◌, ◌≤◌, Bool, IsTrue, List, length}
use Rattle.bre_core.specs.{ByteSet.has, Match.Parts}
use Rattle.scan_core.specs.{
  declared.node.Node.{Node, TheVariants.{Take, First, Last, Choose, Back}},
  Code.{At, Goes, Entered},
}

-- a node leads to another without a byte; the flags say whether the place is the line's first or its last
abbrev pub LeadsOn : Node → (at_first at_last : Bool) → (from to : ℕ) → Type 0
LeadsOn (Take bytes) at_first at_last from to = ⊥
LeadsOn First at_first at_last from to = IsTrue at_first × (to ≡ from + 1)
LeadsOn Last at_first at_last from to = IsTrue at_last × (to ≡ from + 1)
LeadsOn (Choose skip) at_first at_last from to = (to ≡ from + 1) ⊎ (to ≡ from + skip)
LeadsOn (Back by) at_first at_last from to = from ≡ to + by

abbrev pub Flows : List Node → (at_first at_last : Bool) → (from to : ℕ) → Type 0
Flows code at_first at_last from to = (node : Node) × At code from node × LeadsOn node at_first at_last from to

abbrev pub FlowsOn : List Node → (at_first at_last : Bool) → (from to : ℕ) → Type 0
FlowsOn code at_first at_last from to = (count : ℕ) × Parts (Flows code at_first at_last) count from to

-- a byte leads from a node to the next
abbrev pub StepsBy : List Node → (byte from to : ℕ) → Type 0
StepsBy code byte from to = (bytes : List Bool) × At code from (Take bytes) × IsTrue (has bytes byte) × (to ≡ from + 1)

-- a node leads to no number above `size` and to none before the front
abbrev pub FitsIn : (size number : ℕ) → Node → Type 0
FitsIn size number (Take bytes) = Unit {0}
FitsIn size number First = Unit {0}
FitsIn size number Last = Unit {0}
FitsIn size number (Choose skip) = number + skip ≤ size
FitsIn size number (Back by) = by ≤ number

-- every node leads to a node of the code or to the code's end
pub record IsCode (code : List Node) : Type 0 where
  pub fits : (number : ℕ) (node : Node) → At code number node → FitsIn (length code) number node

-- the byte before a place leads to this number
abbrev pub Came : List Node → List ℕ → (place number : ℕ) → Type 0
Came code line place number = (before : ℕ) × (place ≡ before + 1) × (from : ℕ) × Entered code line from before
    × Goes code line from before number place

-- a number follows at a place without a byte, from where the byte before led or from number 0
abbrev pub Reaches : List Node → List ℕ → (place : ℕ) → (at_first at_last : Bool) → (number : ℕ) → Type 0
Reaches code line place at_first at_last number = (from : ℕ) × (Came code line place from ⊎ (from ≡ 0))
    × FlowsOn code at_first at_last from number
