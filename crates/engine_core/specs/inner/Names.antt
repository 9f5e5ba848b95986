-- What private calls say: what standard output gets about a file before the file is opened.
use Rattle.std.specs.Prelude.{◌≡◌, ℕ, Bool, List, ◌⊎◌, Option, Some, None}
use Rattle.ports_core.specs.{Slot.{Slot, visible_of, with_written}, declared.fault.Fault.{Fault, TheVariants.Memory}}
use Rattle.engine_core.specs.inner.Write.{WritesShort}

-- standard output got this line; or there was no memory for the line, or standard output broke in it
abbrev pub TellsOpening : Bool → List ℕ → List Slot → List Slot → Option Fault → Type 0
TellsOpening visible line old new None = new ≡ with_written 0 (visible_of visible line) old
TellsOpening visible line old new (Some fault) =
    ((fault ≡ Memory) × (new ≡ old)) ⊎ WritesShort visible 0 line old new fault
