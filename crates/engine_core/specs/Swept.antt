-- Which files are left once a tool has removed what it made.
use Rattle.std.specs.Prelude.{◌≡◌, ℕ, ◌≤◌, ◌<◌, eqb, ◌||◌, Bool, true, false, List, [], ◌∷◌, ◌++◌, length}
use Rattle.ports_core.specs.{
  Slot.{Slot, slot_at, has_file, changed_at, closes, breaks, removes, is_removable},
  declared.reason.Reason.Reason,
}

-- what becomes of one slot: its file is removed; or the removal failed, and it is broken and closed; or it has no file
pub data Cleared (old : Slot) : Slot → Type 0 where
  removed : has_file old.state ≡ true → Cleared old (removes old)
  stuck : (why : Reason) → has_file old.state ≡ true → Cleared old (breaks why (closes old))
  none : has_file old.state ≡ false → Cleared old old

-- each file from this place on is removed, or is broken and closed if its removal failed; nothing else is touched
pub record SweptFrom (first : ℕ) (old new : List Slot) : Type 0 where
  pub size : length new ≡ length old
  pub before : (place : ℕ) → place < first → slot_at new place ≡ slot_at old place
  pub cleared : (place : ℕ) → first ≤ place → Cleared (slot_at old place) (slot_at new place)

-- the files from this place on are removed, as `SweptFrom` says, or all stay
abbrev pub Swept : Bool → ℕ → List Slot → List Slot → Type 0
Swept true first old new = SweptFrom first old new
Swept false first old new = new ≡ old

-- no output from this place on has a file
abbrev pub HasNoFiles : ℕ → List Slot → Type 0
HasNoFiles first slots = (place : ℕ) → first ≤ place → has_file (slot_at slots place).state ≡ false

abbrev pub is_among : ℕ → List ℕ → Bool
is_among place [] = false
is_among place (one ∷ places) = eqb place one || is_among place places

-- these are different outputs, and each has a file that can be removed
abbrev pub AreThere : List ℕ → List Slot → Type 0
AreThere [] slots = Unit {0}
AreThere (place ∷ places) slots = is_removable slots place × (is_among place places ≡ false) × AreThere places slots

-- what the removal of one file makes of its slot, and which places are left: none, or this place if the removal failed
pub data Tries (place : ℕ) : (Slot → Slot) → List ℕ → Type 0 where
  goes : Tries place removes []
  stays : (why : Reason) → Tries place (λ slot. breaks why (closes slot)) (place ∷ [])

-- These files are removed, one after another, and nothing else is touched. A file whose removal failed is left: it is
-- broken and closed, and the next file is tried.
pub data Removes : List ℕ → List Slot → List ℕ → List Slot → Type 0 where
  all_tried : (slots : List Slot) → Removes [] slots [] slots
  tried : (place : ℕ) (places kept left : List ℕ) (change : Slot → Slot) (old new : List Slot) → Tries place change kept
      → Removes places (changed_at place change old) left new → Removes (place ∷ places) old (kept ++ left) new

-- these files are removed, as `Removes` says, or all stay
abbrev pub RemovesIf : Bool → List ℕ → List Slot → List ℕ → List Slot → Type 0
RemovesIf true files old left new = Removes files old left new
RemovesIf false files old left new = (left ≡ files) × (new ≡ old)
