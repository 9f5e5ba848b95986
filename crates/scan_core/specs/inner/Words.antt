-- Sets of a code's numbers as words, 64 numbers in each.
use Rattle.std.specs.{
  Prelude.{◌≡◌, ◌⊎◌, ◌↔◌, ℕ, zero, suc, ◌+◌, ◌-◌, ◌*◌, ◌/◌, ◌%◌, ◌^◌, ◌<◌, ◌≤◌, ◌==◌, Bool},
  Prelude.{List, [], ◌∷◌, ◌++◌},
  Prelude.{length, slice_index_or},
  Int.bit_at,
}
use Rattle.scan_core.specs.{
  declared.{masks.{Kind.{Kind, TheVariants.{Takes, Counts}}, Masks.Masks}, node.Node.Node},
  Code.weight_of,
  inner.{Each.AreEach, Sets.{FlowsOn, StepsBy}},
}

unfoldable pub IsIn : List ℕ → ℕ → Type 0
IsIn words number = bit_at (slice_index_or words (number / 64) 0) (number % 64) ≡ 1

-- how many words have a bit for each number of a code and for its end
abbrev pub width : List Node → ℕ
width code = length code / 64 + 1

-- the lowest bits of a word as flags
unfoldable pub bits : (count word : ℕ) → List Bool
bits zero word = []
bits (suc count) word = (word % 2 == 1) ∷ bits count (word / 2)

-- the bits of all words as flags
abbrev pub flags_of : List ℕ → List Bool
flags_of [] = []
flags_of (word ∷ words) = bits 64 word ++ flags_of words

-- how far the words are from having all their bits
abbrev pub unset : List ℕ → ℕ
unset [] = 0
unset (word ∷ words) = (2 ^ 64 - word) + unset words

-- no number below `on` was added, and `on` is below `before` only if some number was added
pub record GoesOn (old new : List ℕ) (before on : ℕ) : Type 0 where
  pub low : on ≤ before
  pub under : (number : ℕ) → number < on → IsIn new number → IsIn old number
  pub fuller : unset new ≤ unset old
  pub less : on < before → unset new < unset old

-- exactly these numbers were added
pub record Grows (Added : ℕ → Type 0) (old new : List ℕ) (before on : ℕ) : Type 0 where
  pub size : length new ≡ length old
  pub exact : (number : ℕ) → IsIn new number ↔ (IsIn old number ⊎ Added number)
  pub goes : GoesOn old new before on

-- only numbers to which old numbers lead without a byte were added
pub record Adds (code : List Node) (at_first at_last : Bool) (old new : List ℕ) : Type 0 where
  pub size : length new ≡ length old
  pub kept : (number : ℕ) → IsIn old number → IsIn new number
  pub from : (number : ℕ) → IsIn new number → (start : ℕ) × IsIn old start × FlowsOn code at_first at_last start number

-- how many positions a number is: 1 for the end, none beyond it
abbrev pub counted_at : List Node → ℕ → ℕ
counted_at [] zero = 1
counted_at [] (suc number) = 0
counted_at (node ∷ code) zero = weight_of node
counted_at (node ∷ code) (suc number) = counted_at code number

abbrev pub IsOf : List Node → Kind → ℕ → Type 0
IsOf code (Takes byte) number = StepsBy code byte number (number + 1)
IsOf code Counts number = counted_at code number ≡ 1

-- a word has a bit for each number of a kind
abbrev pub IsMask : List Node → Kind → (at word : ℕ) → Type 0
IsMask code kind at word = (bit : ℕ) → bit < 64 → (bit_at word bit ≡ 1) ↔ IsOf code kind (at * 64 + bit)

-- for each byte the words of the numbers that take it
abbrev pub AreTakes : List Node → List ℕ → Type 0
AreTakes code =
    AreEach 0 (λ place. IsMask code (Takes (place / width code)) (place % width code)) (256 * width code)

pub record IsMasks (code : List Node) (masks : Masks) : Type 0 where
  pub takes : AreTakes code masks.takes.items
  pub counts : AreEach 0 (IsMask code Counts) (width code) masks.counts.items

-- the new set has all that the old set leads to without a byte
pub record SpreadsOut (code : List Node) (at_first at_last : Bool) (old new : List ℕ) : Type 0 where
  pub size : length new ≡ length old
  pub exact : (number : ℕ) → IsIn new number ↔ ((from : ℕ) × IsIn old from × FlowsOn code at_first at_last from number)
