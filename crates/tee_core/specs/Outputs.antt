-- The outputs of a tee, and what each of its calls makes of them.
use Rattle.std.specs.{
  Prelude.{◌≡◌, ℕ, ◌+◌, ◌≤◌, ◌<◌, Bool, true, false, not, ◌&&◌, List, [], ◌∷◌, length, take, ◌⊎◌},
  Prelude.if◌then◌else◌,
}
use Rattle.ports_core.specs.{
  Slot.{Slot, slot_at, is_open, adds, breaks, closes, visible_of},
  declared.reason.Reason.Reason,
}
use Rattle.tee_core.specs.TeeState.{TeeState}

-- the slot at this place is one of the tee's files
abbrev pub IsFile : TeeState → ℕ → Type 0
IsFile tee place = (tee.first ≤ place) × (place < tee.first + tee.count)

-- the slot at this place is one to which the tee copies: standard output, or a file
abbrev pub IsOutput : TeeState → ℕ → Type 0
IsOutput tee place = (place ≡ 0) ⊎ IsFile tee place

-- a call can write to the slot, unless the slot is broken
abbrev pub IsUsable : Slot → Type 0
IsUsable slot = slot.is_broken ≡ false → is_open slot.state ≡ true

-- a call can write to each output of a tee that isn't broken
abbrev pub IsReady : TeeState → List Slot → Type 0
IsReady tee slots = (place : ℕ) → IsOutput tee place → IsUsable (slot_at slots place)

-- Some bytes came: an output took all of them; or it took a beginning and broke; or it was broken before.
pub data Gets (visible : Bool) (bytes : List ℕ) (old : Slot) : Slot → Type 0 where
  gets_all : old.is_broken ≡ false → Gets visible bytes old (adds (visible_of visible bytes) old)
  breaks_off : old.is_broken ≡ false → (n : ℕ) (why : Reason) → n < length bytes
      → Gets visible bytes old (breaks why (adds (visible_of visible (take n bytes)) old))
  gets_none : old.is_broken ≡ true → Gets visible bytes old old

-- The end came: a file was closed; or it broke as it was closed; or it was broken before.
pub data Closes (old : Slot) : Slot → Type 0 where
  is_closed : old.is_broken ≡ false → Closes old (closes old)
  fails_to_close : old.is_broken ≡ false → (why : Reason) → Closes old (breaks why (closes old))
  was_broken : old.is_broken ≡ true → Closes old old

-- each slot that `IsOne` names was changed so, whatever became of the others, and no other slot was changed
pub record ChangesEach (Change : Slot → Slot → Type 0) (IsOne : ℕ → Type 0) (old new : List Slot) : Type 0 where
  pub count : length new ≡ length old
  pub each : (place : ℕ) → IsOne place → Change (slot_at old place) (slot_at new place)
  pub others : (place : ℕ) → (IsOne place → ⊥) → slot_at new place ≡ slot_at old place

-- how many outputs are sound before and broken after
abbrev pub newly_broken : List Slot → List Slot → ℕ
newly_broken [] news = 0
newly_broken (old ∷ olds) [] = 0
newly_broken (old ∷ olds) (new ∷ news) = (if not old.is_broken && new.is_broken then 1 else 0) + newly_broken olds news
