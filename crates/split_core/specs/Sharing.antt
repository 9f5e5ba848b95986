-- What opening leaves on outputs, and why a file can't be opened.
use Rattle.std.specs.Prelude.{◌≡◌, ℕ, Bool, true, List, [], ◌⊎◌}
use Rattle.engine_core.specs.{Written.{OutputsAt, StoppedBetween, nothing}, Work.Work}
use Rattle.ports_core.specs.{Slot.{Slot, Rose}, declared.fault.Fault.{Fault, TheVariants.{Memory, Write, Open}}}

-- If nothing had been written since `before`, what is written since then is what the work settles before any byte came.
abbrev pub HaveOpened : Bool → Work → List Slot → List Slot → Type 0
HaveOpened visible work old new =
    (before : List Slot) → OutputsAt visible before nothing old → OutputsAt visible before (work.settled []) new

-- a fault stopped outputs that had nothing, which have a beginning of that
abbrev pub StoppedOpening : Bool → Work → List Slot → List Slot → Fault → Type 0
StoppedOpening visible work old new fault = (before : List Slot) → OutputsAt visible before nothing old
    → StoppedBetween work.means.output visible before nothing (work.settled []) fault new

-- a file can't be opened, there is no memory for its name, or standard output broke in the line about the file
abbrev pub CannotOpen : Bool → List Slot → List Slot → Fault → Type 0
CannotOpen verbose old new fault = (fault ≡ Memory) ⊎ ((verbose ≡ true) × (fault ≡ Write 0) × Rose 0 old new)
    ⊎ ((slot : ℕ) × (fault ≡ Open slot) × Rose slot old new)
