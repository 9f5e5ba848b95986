-- What private calls say: what each line with a match has, and looking for it.
use Rattle.std.specs.Prelude.{◌≡◌, ℕ, ◌+◌, ◌<◌, ◌≤◌, Bool, true, false, IsTrue, List, ◌++◌, length, slice_index}
use Rattle.bre_core.specs.ByteSet.{has}
use Rattle.memchr.specs.Find.{Passes, OccursAt, is_byte, is_byte2, is_byte3}
use Rattle.scan_core.specs.{
  declared.few_bytes.FewBytes.{FewBytes, TheVariants.{Zero, One, Two, Three, More}},
  declared.needle.Needle.{Needle, TheVariants.{Byte, Text}},
  declared.node.Node.{Node, TheVariants.{Take, First, Last, Choose, Back}},
  declared.rarest.Rarest.Rarest,
  Code.At,
  Counted.EndsIn,
}

abbrev pub is_among : FewBytes → ℕ → Bool
is_among Zero byte = false
is_among (One a) byte = is_byte a byte
is_among (Two a b) byte = is_byte2 a b byte
is_among (Three a b c) byte = is_byte3 a b c byte
is_among More byte = true

-- the line has the needle
abbrev pub HasNeedle : Needle → List ℕ → Type 0
HasNeedle (Byte few) line = (place : ℕ) × (place < length line) × Passes (is_among few) line place
HasNeedle (Text needle) line = (place : ℕ) × OccursAt line needle place

abbrev pub AreBytes : List ℕ → Type 0
AreBytes line = (place : ℕ) → place < length line → slice_index line place < 256

-- each line with a match has the needle
abbrev pub IsNeedle : List Node → Needle → Type 0
IsNeedle code needle = (line : List ℕ) → AreBytes line → EndsIn code line → HasNeedle needle line

-- no stretch of the text that ends before a place has the needle
abbrev pub LacksBefore : Needle → List ℕ → ℕ → Type 0
LacksBefore needle text place = (before part after : List ℕ) → text ≡ before ++ part ++ after
    → length before + length part < place → HasNeedle needle part → ⊥

-- no choice before a node leads beyond the node, so each walk to the end passes it
abbrev pub IsPassed : List Node → ℕ → Type 0
IsPassed code number = (at skip : ℕ) → at < number → At code at (Choose skip) → at + skip ≤ number

-- the rarest nodes before a number
pub record IsRarest (code : List Node) (number : ℕ) (rarest : Rarest) : Type 0 where
  pub near : (at skip : ℕ) → at < number → At code at (Choose skip) → at + skip ≤ rarest.far
  pub begun : rarest.run ≤ number
  pub passed : IsPassed code rarest.from

-- the node takes this byte and no other
abbrev pub TakesOnly : Node → ℕ → Type 0
TakesOnly (Take bytes) byte = (other : ℕ) → other < 256 → IsTrue (has bytes other) → other ≡ byte
TakesOnly First byte = ⊥
TakesOnly Last byte = ⊥
TakesOnly (Choose skip) byte = ⊥
TakesOnly (Back by) byte = ⊥

-- the nodes from a number on take these bytes, one after another
abbrev pub IsLiteral : List Node → ℕ → List ℕ → Type 0
IsLiteral code from text = (k : ℕ) → k < length text → (node : Node) × At code (from + k) node
    × TakesOnly node (slice_index text k)
