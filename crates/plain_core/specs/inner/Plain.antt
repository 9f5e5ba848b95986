-- Going over a pattern's tokens with the stretches of a line.
use Rattle.std.specs.Prelude.{◌≡◌, ℕ, Bool, List, [], ◌∷◌, ◌++◌, length, Option, Some, None}
use Rattle.bre_core.specs.{Pattern.{Pattern, nothing, append, Item}, Search.{matches, matches_item}}
use Rattle.plain_core.specs.{declared.plain.Plain.Plain, inner.Table.IsTable}

-- the tables of a concatenation: of the items before the last, and of the last
abbrev pub FrameIs : List ℕ → Pattern → List (List Bool) → Option (List (List Bool)) → Type 0
FrameIs line current before None = (current ≡ nothing) × IsTable (length line) (matches nothing line) before
FrameIs line current before (Some last) = (pattern : Pattern) × (item : Item) × (current ≡ append pattern item)
    × IsTable (length line) (matches pattern line) before × IsTable (length line) (matches_item item line) last

-- the tables of the concatenations around, the innermost last
abbrev pub AroundAre : List ℕ → List (List (List Bool)) → List Pattern → Type 0
AroundAre line tables [] = tables ≡ []
AroundAre line tables (outer ∷ around) = (below : List (List (List Bool))) × (innermost : List (List Bool))
    × (tables ≡ below ++ innermost ∷ []) × IsTable (length line) (matches outer line) innermost
    × AroundAre line below around

-- the tables so far are those of the tokens so far
pub record Means (line : List ℕ) (current : Pattern) (around : List Pattern) (plain : Plain) : Type 0 where
  pub frame : FrameIs line current plain.before plain.last
  pub outer : AroundAre line plain.around.items around
