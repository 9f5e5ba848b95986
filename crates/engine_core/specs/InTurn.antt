-- Where a fault stopped a tool that closes each file before it opens the next.
use Rattle.std.specs.Prelude.{◌≡◌, ℕ, ◌≤◌, suc, Bool, List, [], ◌∷◌, length, take, Option, Some, None, Result, Ok, Err}
use Rattle.ports_core.specs.{Slot.Slot, declared.fault.Fault.Fault}
use Rattle.engine_core.specs.{
  Written.{Written, OutputsAt, Begins, IsNext, Marks, IsAt, Output, gets_none, gets_bytes, gets_lines, gets_openings},
  Written.{AreLines, AreOpenings, nothing},
}
use Rattle.ports_core.specs.declared.slot.State.TheVariants as state

abbrev pub AllClosed : List Slot → Type 0
AllClosed [] = Unit {0}
AllClosed (file ∷ files) = (file.state ≡ state.Closed) × AllClosed files

-- the files came one after another: each file before this place is closed, and no file stands after this place
pub record InTurn (part : List Slot) (place : ℕ) : Type 0 where
  pub closed : AllClosed (take place part)
  pub within : place ≤ length part
  pub last : length part ≤ suc place

-- if files have lines, standard output has the lines for the files before a place, or for all that were opened
abbrev pub LinesTo : Output → Written → Written → ℕ → Fault → Type 0
LinesTo gets_none part high place fault = Unit {0}
LinesTo gets_bytes part high place fault = Unit {0}
LinesTo (gets_lines line) part high place fault = AreLines line part.out part.files place fault
LinesTo (gets_openings line) part high place fault = AreOpenings line nothing part (IsNext part high) fault

-- A fault stopped a tool that closes each file before it opens the next. The outputs have a part that `low` begins and
-- that begins `high`. Nothing more relates the files of these parts, so that steps compose.
pub record StoppedInTurn (output : Output) (visible : Bool) (before : List Slot) (low high : Written) (fault : Fault)
    (now : List Slot) : Type 0 where
  pub part : Written
  pub above : Begins low part
  pub below : Begins part high
  pub place : ℕ
  pub turn : InTurn part.files place
  pub lines : LinesTo output part high place fault
  pub reached : List Slot
  pub outputs : OutputsAt visible before part reached
  pub marks : Marks (IsNext part high) fault reached now
  pub from : IsAt fault (length before) place (length part.files)

-- the fault of a call, if the call ended with a fault
abbrev pub fault_in : {T : Type 0} → Result T Fault → Option Fault
fault_in (Ok result) = None
fault_in (Err fault) = Some fault

-- the outputs got from one part to another, as `There` says, or a fault stopped them in between
abbrev pub IsThere : Output → Bool → Type 0 → List Slot → Written → Written → List Slot → Option Fault → Type 0
IsThere output visible There before low high new None = There
IsThere output visible There before low high new (Some fault) = StoppedInTurn output visible before low high fault new
