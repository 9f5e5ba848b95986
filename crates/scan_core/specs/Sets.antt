-- Sets of nodes: which are entered at a place of a line.
use Rattle.std.specs.Prelude.{ℕ, ◌+◌, Bool, true, false, IsTrue, List, [], ◌∷◌, slice_index_or}
use Rattle.scan_core.specs.{declared.node.Node.Node, Code.weight_of}

abbrev pub IsMarked : List Bool → ℕ → Type 0
IsMarked marks number = IsTrue (slice_index_or marks number false)

abbrev pub weight_if : Bool → ℕ → ℕ
weight_if true weight = weight
weight_if false weight = 0

-- how many of the marked numbers are positions
abbrev pub positions_among : List Node → List Bool → ℕ
positions_among code [] = 0
positions_among [] (mark ∷ marks) = weight_if mark 1
positions_among (node ∷ code) (mark ∷ marks) = weight_if mark (weight_of node) + positions_among code marks
