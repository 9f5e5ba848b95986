-- How the outputs get what a look gives for a name: standard output gets text, under a header if a header is due, and
-- standard error gets lines.
use Rattle.std.specs.Prelude.{◌≡◌, ℕ, Bool, true, List, ◌∷◌, Option, Some, None, IsTrue}
use Rattle.ports_core.specs.{
  Slot.{Slot, is_open, is_writable, slot_at, visible_of, with_written},
  declared.{calling.Calling.Calling, fault.Fault.Fault},
}
use Rattle.follow_core.specs.{
  Telling.{Remark, TellsAll},
  Followed.{last_header_from, messages_of, text_from},
  Printing.{PrinterState, Short},
  Share.Share,
}

-- standard output got the text, or a beginning of it before this fault
abbrev pub CameTo : Bool → List ℕ → List Slot → List Slot → Option Fault → Type 0
CameTo visible text old new None = new ≡ with_written 0 (visible_of visible text) old
CameTo visible text old new (Some fault) = Short visible text old new fault

-- standard output got the text, or a beginning of it before this fault; standard error got the lines of these remarks;
-- no other output changed
abbrev pub WroteBy : Bool → Calling → List ℕ → List Remark → List Slot → List Slot → Option Fault → Type 0
WroteBy visible calling text remarks old new fault = (output error : Slot) (others : List Slot)
    → old ≡ output ∷ error ∷ others → (error_after : Slot) × TellsAll visible calling remarks error error_after
    × CameTo visible text (output ∷ error_after ∷ others) new fault

-- standard output got the text, and standard error the lines of the remarks
abbrev pub Wrote : Bool → Calling → List ℕ → List Remark → List Slot → List Slot → Type 0
Wrote visible calling text remarks old new = WroteBy visible calling text remarks old new None

-- the outputs got all shares, one after another
pub record AllShared (visible : Bool) (printer : PrinterState) (shares : List Share) (old : List Slot)
    (after : PrinterState) (new : List Slot) : Type 0 where
  pub printer_is : after ≡ record printer { last = last_header_from printer.headers printer.last shares }
  pub slots : Wrote visible printer.calling (text_from printer.headers printer.last shares) (messages_of shares) old new

-- the outputs got the lines of all shares, and a beginning of their text before this fault
pub record AllShort (visible : Bool) (printer : PrinterState) (shares : List Share) (old new : List Slot)
    (fault : Fault) : Type 0 where
  pub slots : WroteBy visible printer.calling (text_from printer.headers printer.last shares) (messages_of shares) old
      new (Some fault)

-- standard error is open, broken or not
abbrev pub HasError : List Slot → Type 0
HasError slots = is_open (slot_at slots 1).state ≡ true

-- standard output can be written, and standard error is open
abbrev pub CanPrint : List Slot → Type 0
CanPrint slots = IsTrue (is_writable slots 0) × HasError slots
