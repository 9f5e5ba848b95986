-- What a tool says on standard error.
use Rattle.std.specs.Prelude.{◌≡◌, ℕ, ◌<◌, Bool, true, false, List, [], ◌∷◌, length, take, ◌⊎◌}
use Rattle.ports_core.specs.{
  Slot.{Slot, slot_at, adds, breaks, visible_of},
  Text.{Message, is_quiet, line_of, message_of},
  declared.{
    calling.Speaker.Speaker,
    reason.Reason.{Reason, TheVariants.Other},
    fault.Fault.{Fault, TheVariants.{Memory, Write, Open}},
  },
}

-- an output got the text; or it got a beginning of the text and broke; or it was broken before, and got nothing
pub data Prints (visible : Bool) (text : List ℕ) (old new : Slot) : Type 0 where
  whole : old.is_broken ≡ false → new ≡ adds (visible_of visible text) old → Prints visible text old new
  cut : old.is_broken ≡ false → (n : ℕ) (why : Reason) → n < length text
      → new ≡ breaks why (adds (visible_of visible (take n text)) old)
      → Prints visible text old new
  passed : old.is_broken ≡ true → new ≡ old → Prints visible text old new

-- standard error, the slot after standard output, changed as `Change` says, and no other output changed
abbrev pub OnError : (Slot → Slot → Type 0) → List Slot → List Slot → Type 0
OnError Change old new = (output error : Slot) (since : List Slot) → old ≡ output ∷ error ∷ since
    → (after : Slot) × Change error after × (new ≡ output ∷ after ∷ since)

-- standard error got the text, as `Prints` says, and no other output changed
abbrev pub PrintsOn : Bool → List ℕ → List Slot → List Slot → Type 0
PrintsOn visible text = OnError (Prints visible text)

-- an output got the line of a message with this reason; if there was no memory for this line, the line that says so
-- stands in its place
pub record SaysFor (visible : Bool) (speaker : Speaker) (why : Reason) (message : Message) (old new : Slot)
    : Type 0 where
  pub said : List ℕ
  pub is : (said ≡ line_of speaker why message) ⊎ (said ≡ line_of speaker why (message_of Memory []))
  pub printed : Prints visible said old new

-- an output got the line of a message, with some reason, as the system gives one
abbrev pub Says : Bool → Speaker → Message → Slot → Slot → Type 0
Says visible speaker message old new = (why : Reason) × SaysFor visible speaker why message old new

-- an output got these messages, one after another
abbrev pub SaysAll : Bool → Speaker → List Message → Slot → Slot → Type 0
SaysAll visible speaker [] old new = new ≡ old
SaysAll visible speaker (message ∷ messages) old new = (mid : Slot) × Says visible speaker message old mid
    × SaysAll visible speaker messages mid new

-- standard error got a message, with this reason, and no other output changed
abbrev pub SaysOn : Bool → Speaker → Reason → Message → List Slot → List Slot → Type 0
SaysOn visible speaker why message = OnError (SaysFor visible speaker why message)

-- an output got the line of a message, unless nothing is to be said
abbrev pub TellsIf : (quiet : Bool) → Bool → Speaker → Reason → Message → Slot → Slot → Type 0
TellsIf true visible speaker why message old new = new ≡ old
TellsIf false visible speaker why message old new = SaysFor visible speaker why message old new

-- an output got the line of a fault with this name, unless nothing is to be said of it (`is_quiet`)
abbrev pub Tells : Bool → Speaker → Reason → Fault → List ℕ → Slot → Slot → Type 0
Tells visible speaker why fault name =
    TellsIf (is_quiet fault speaker.calling why) visible speaker why (message_of fault name)

-- the name of the output that a fault names; the name is empty if there was no memory to keep it
abbrev pub output_named : List Slot → Fault → List ℕ
output_named slots (Write slot) = (slot_at slots slot).name
output_named slots (Open slot) = (slot_at slots slot).name
output_named slots fault = []

-- why the output broke that a fault names
abbrev pub output_reason : List Slot → Fault → Reason
output_reason slots (Write slot) = (slot_at slots slot).reason
output_reason slots (Open slot) = (slot_at slots slot).reason
output_reason slots fault = Other

-- A fault was reported on standard error, unless nothing is to be said of it. The line has the name of the output that
-- the fault names, and the reason why this output broke.
abbrev pub TellsOn : Bool → Speaker → Fault → List Slot → List Slot → Type 0
TellsOn visible speaker fault old new =
    OnError (Tells visible speaker (output_reason old fault) fault (output_named old fault)) old new

-- a message, and the reason that its line gives, if it gives one
pub record Report : Type 0 where
  pub message : Message
  pub why : Reason

-- an output got the lines of these reports, one after another
abbrev pub SaysEach : Bool → Speaker → List Report → Slot → Slot → Type 0
SaysEach visible speaker [] old new = new ≡ old
SaysEach visible speaker (report ∷ reports) old new = (mid : Slot)
    × SaysFor visible speaker report.why report.message old mid × SaysEach visible speaker reports mid new
