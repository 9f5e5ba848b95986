-- What following says on standard error.
use Rattle.std.specs.Prelude.{◌≡◌, ℕ, Bool, List, [], ◌∷◌}
use Rattle.ports_core.specs.{
  Slot.Slot,
  Text.{Message, message_of},
  declared.calling.{Calling.Calling, Speaker.Speaker},
  declared.fault.Fault.Fault,
  declared.reason.Reason.Reason,
  declared.tool.Tool.TheVariants.Tail,
  Message.{Prints, SaysFor},
}
use Rattle.follow_core.specs.{Notice.notice_of, Title.title, declared.notice.Notice.Notice}

-- `tail`, called so
abbrev pub tail_by : Calling → Speaker
tail_by calling = record { calling = calling; tool = Tail }

-- a call on a name failed, or the name was missing at the first look, for this reason
pub record Failure : Type 0 where
  pub fault : Fault
  pub why : Reason

-- what is said of a name
pub data Remark : Type 0 where
  -- what a look found of it
  found : Notice → (name : List ℕ) → Remark
  -- that it can't be opened or read
  failed : Failure → (name : List ℕ) → Remark

-- the message that tells that a call on a name failed
abbrev pub failure_message : Fault → List ℕ → Message
failure_message fault name = message_of fault (title name)

-- An output got the line of a remark. The line of a failure has its reason if `tail` was called by its own name; if there
-- is no memory for that line, the line that says so stands in its place.
abbrev pub Tells : Bool → Calling → Remark → Slot → Slot → Type 0
Tells visible calling (found notice name) old new = Prints visible (notice_of notice name) old new
Tells visible calling (failed failure name) old new =
    SaysFor visible (tail_by calling) failure.why (failure_message failure.fault name) old new

-- it got the lines of these remarks, one after another
abbrev pub TellsAll : Bool → Calling → List Remark → Slot → Slot → Type 0
TellsAll visible calling [] old new = new ≡ old
TellsAll visible calling (remark ∷ remarks) old new =
    (mid : Slot) × Tells visible calling remark old mid × TellsAll visible calling remarks mid new
