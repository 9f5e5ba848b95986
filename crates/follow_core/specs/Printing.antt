-- What is known to the code that writes the bytes of names, under headers, and messages.
use Rattle.std.specs.Prelude.{◌≡◌, ℕ, ◌≤◌, Bool, List, Option, None, length, take}
use Rattle.ports_core.specs.{
  Slot.{Slot, with_written, visible_of},
  Write.BrokeAfter,
  declared.{calling.Calling.Calling, fault.Fault.Fault},
}
use Rattle.ports_core.specs.declared.fault.Fault.TheVariants as fault

pub record PrinterState : Type 0 where
  -- how `tail` was called; that decides whether messages of failures have a reason
  pub calling : Calling
  pub headers : Bool
  -- the name of the last header
  pub last : Option (List ℕ)

-- the state before anything was written
abbrev pub fresh_printer : Calling → Bool → PrinterState
fresh_printer calling headers = record { calling = calling; headers = headers; last = None }

-- a beginning of the text was written before standard output broke, or before there was no memory
pub data Short (visible : Bool) (text : List ℕ) (old new : List Slot) : Fault → Type 0 where
  broke : (n : ℕ) → BrokeAfter visible old new 0 text n → Short visible text old new (fault.Write 0)
  no_room : (n : ℕ) → n ≤ length text → new ≡ with_written 0 (visible_of visible (take n text)) old
      → Short visible text old new fault.Memory
