-- Writing a pattern's code from its last token to its first, and from its last node to its first.
use Rattle.std.specs.Prelude.{◌≡◌, ℕ, ◌<◌, ◌≤◌, List, ◌∷◌, ◌++◌, length, take, drop, reverse, Option, Some, None}
use Rattle.scan_core.specs.{
  declared.{node.Node.{Node, TheVariants.Back}, emit.Duplication.Duplication},
  Code.{copies, tail_of},
}

-- the `size` nodes from a place on
abbrev pub stretch : (from size : ℕ) → List Node → List Node
stretch from size nodes = take size (drop from nodes)

-- the nodes of an item that is written out, after the step back if there is no bound
abbrev pub begun : Option ℕ → List Node → List Node
begun None nodes = Back 0 ∷ nodes
begun (Some high) nodes = nodes

-- an item that is repeated may stand from `start` on among `size` nodes, and its bounds are in order
abbrev pub HasBegun : Option ℕ → (low start size : ℕ) → Type 0
HasBegun None low start size = start < size
HasBegun (Some high) low start size = (start ≤ size) × (low ≤ high) × (0 < high)

-- the item that stands from the duplication's place on was written out as often as the duplication asks for
abbrev pub Repeats : Duplication → (old new : List Node) → Type 0
Repeats duplication old new = (before code : List Node) → length before ≡ duplication.start
    → old ≡ before ++ begun duplication.high (reverse code)
    → new ≡ before ++ reverse (copies duplication.low code ++ tail_of code duplication.low duplication.high)
