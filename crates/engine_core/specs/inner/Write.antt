-- What private calls say: what writes leave in the slots.
use Rattle.std.specs.Prelude.{◌≡◌, ℕ, Bool, List, Option, Some, None}
use Rattle.ports_core.specs.{
  Slot.{Slot, visible_of, with_written},
  declared.fault.Fault.{Fault, TheVariants.Write},
  Write.BrokeAfter,
}

-- the slot broke among these bytes, and the fault names the slot
pub data WritesShort (visible : Bool) (slot : ℕ) (bytes : List ℕ) (old new : List Slot) : Fault → Type 0 where
  broke : (n : ℕ) → BrokeAfter visible old new slot bytes n → WritesShort visible slot bytes old new (Write slot)

-- a slot got these bytes, or broke among them
abbrev pub Wrote : Bool → ℕ → List ℕ → List Slot → List Slot → Option Fault → Type 0
Wrote visible slot bytes old new None = new ≡ with_written slot (visible_of visible bytes) old
Wrote visible slot bytes old new (Some fault) = WritesShort visible slot bytes old new fault
