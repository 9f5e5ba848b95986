-- What a run finds at the names that it is to read, one after another.
use Rattle.std.specs.{
  Prelude.{◌≡◌, ℕ, ◌+◌, Bool, true, false, ◌||◌, List, [], ◌∷◌, Option, Some, None, codes, if◌then◌else◌, bytes_eq},
  Prelude.is_some,
}
use Rattle.ports_core.specs.{Inputs.empty, Source.Content}

pub record Input : Type 0 where
  -- what headers and messages call it
  pub name : List ℕ
  -- its number among the sources: 0 is standard input; a second `-` has none
  pub slot : Option ℕ
  -- what it shows before it is read, if it shows anything
  pub shown : Option (List ℕ)
  -- what it holds; none if it can't be opened
  pub content : Option Content

-- the operand `-` is standard input
abbrev pub is_dash : List ℕ → Bool
is_dash name = bytes_eq name (codes "-")

abbrev pub has_dash : List (List ℕ) → Bool
has_dash [] = false
has_dash (name ∷ names) = is_dash name || has_dash names

-- what an input shows if bytes are visible; an input that can't be opened shows nothing
abbrev pub shown_of : Option Content → Option (List ℕ)
shown_of None = None
shown_of (Some content) = content.shown

abbrev pub standard_input : Content → Input
standard_input content = record {
  name = codes "standard input";
  slot = Some 0;
  shown = content.shown;
  content = Some content;
}

-- what came in once doesn't come again: a `-` after the first is an empty input
abbrev pub read_before : Input
read_before = record { name = codes "standard input"; slot = None; shown = None; content = Some empty }

abbrev pub file_input : List ℕ → ℕ → Option Content → Input
file_input name slot content = record {
  name = name;
  slot = Some slot;
  shown = shown_of content;
  content = content;
}

-- what there is to read: what an input of this number finds at a name, and what standard input holds
pub record World : Type 0 where
  pub laid : ℕ → List ℕ → Option Content
  pub standard : Content

-- the input for a name, by whether a `-` came before and by the next number
abbrev pub input_of : World → Bool → ℕ → List ℕ → Bool → Input
input_of world was_read slot name is_standard =
    if is_standard
    then (if was_read then read_before else standard_input world.standard)
    else file_input name slot (world.laid slot name)

abbrev pub next_slot : ℕ → List ℕ → ℕ
next_slot slot name = if is_dash name then slot else slot + 1

abbrev pub inputs_from : World → Bool → ℕ → List (List ℕ) → List Input
inputs_from world was_read slot [] = []
inputs_from world was_read slot (name ∷ names) =
    input_of world was_read slot name (is_dash name) ∷ inputs_from world (was_read || is_dash name)
    (next_slot slot name) names

-- the inputs for names: files have the numbers 1, 2, ..
abbrev pub inputs_at : World → List (List ℕ) → List Input
inputs_at world names = inputs_from world false 1 names

-- an input that shows this, if it has a number
abbrev pub showing : Option (List ℕ) → Input → Input
showing shown input = if is_some input.slot then record input { shown = shown } else input

-- the input is an input for the name, whatever it holds and shows
abbrev pub IsFor : Bool → ℕ → List ℕ → Input → Type 0
IsFor was_read slot name input = (world : World) × (shown : Option (List ℕ))
    × (input ≡ showing shown (input_of world was_read slot name (is_dash name)))

abbrev pub AreFrom : Bool → ℕ → List (List ℕ) → List Input → Type 0
AreFrom was_read slot [] inputs = inputs ≡ []
AreFrom was_read slot (name ∷ names) [] = ⊥
AreFrom was_read slot (name ∷ names) (input ∷ inputs) = IsFor was_read slot name input
    × AreFrom (was_read || is_dash name) (next_slot slot name) names inputs

-- The inputs are inputs for these names. If bytes are visible, they are what is there; if not, nothing is said of their
-- bytes, nor of what they show.
pub record Finds (visible : Bool) (world : World) (names : List (List ℕ)) (inputs : List Input) : Type 0 where
  pub are : AreFrom false 1 names inputs
  pub there : visible ≡ true → inputs ≡ inputs_at world names
