-- What a look gives for one name, call by call: bytes on standard output, under headers, and lines on standard error.
-- Of each call on a name: what it owes, and what is due of it.
use Rattle.std.specs.{
  Prelude.{◌≡◌, Bool, true, false, ℕ, List, Option, Some, None, Result, Ok, Err, ◌⊎◌, []},
  Prelude.{◌++◌, if◌then◌else◌, IfOk, is_some},
}
use Rattle.ports_core.specs.{declared.{reason.Reason.Reason, fault.Fault.Fault}, Slot.{Slot, changed_at, slot_at}}
use Rattle.watch_core.specs.{Snapshot.{Snapshot, latest}, Watched.{NameBreaks, Watched, opens, watched_at}}
use Rattle.follow_core.specs.{
  declared.visitor.Stop.{Stop, TheVariants.{Broke, Over}},
  Event.{Begins, Event, bytes_in, remarks_in},
  Followed.{last_with, text_with},
  Look.{Fate, broken_by, sound, unmeasured, unsought, unread},
  Printing.PrinterState,
  Reading.{Caught, First, IsLong, Later, LedTo, ReadOn},
  Share.{Share, bytes_of, remarks_of},
  Telling.Remark,
  Sharing.{WroteBy, CanPrint, HasError},
  Version.open_after_look,
}
use Rattle.ports_core.specs.declared.fault.Fault.TheVariants as fault
use Rattle.watch_core.specs.declared.watch.Broken.TheVariants as broken

abbrev pub IsFront : {X : Type 0} → List X → List X → Type 0
IsFront {X} front whole = (rest : List X) × (whole ≡ front ++ rest)

-- bytes of a name, with the header that stands before them
abbrev pub text_under : PrinterState → (is_opened : Bool) → (name bytes : List ℕ) → List ℕ
text_under printer is_opened name bytes = text_with printer.headers printer.last is_opened name bytes

abbrev pub printer_under : PrinterState → (is_opened : Bool) → (name bytes : List ℕ) → PrinterState
printer_under printer is_opened name bytes =
    record printer { last = last_with printer.headers printer.last is_opened name bytes }

-- the printer and the outputs between two calls
pub record Pen : Type 0 where
  pub printer : PrinterState
  pub slots : List Slot

abbrev pub pen : PrinterState → List Slot → Pen
pen printer slots = record { printer = printer; slots = slots }

-- the outputs got bytes and remarks of a name, or the remarks and a beginning of the bytes before this fault
pub record Came (visible is_opened : Bool) (name bytes : List ℕ) (remarks : List Remark) (old new : Pen)
    (over : Option Fault) : Type 0 where
  pub printer_is : over ≡ None → new.printer ≡ printer_under old.printer is_opened name bytes
  pub slots : WroteBy visible old.printer.calling
      (text_under old.printer is_opened name bytes) remarks old.slots new.slots
      over

-- the outputs got a share, or its lines and a beginning of its bytes before this fault
abbrev pub Shared : Bool → Share → (old new : Pen) → Option Fault → Type 0
Shared visible share old new over =
    Came visible share.is_opened share.name (bytes_of share) (remarks_of share) old new over

-- what stopped a call on a name, if anything did
abbrev pub stop_in : {T : Type 0} → Result T Stop → Option Stop
stop_in (Ok value) = None
stop_in (Err stop) = Some stop

-- a fault that ends following, if a call returned a fault
abbrev pub over_in : {T : Type 0} → Result T Fault → Option Stop
over_in (Ok value) = None
over_in (Err why) = Some (Over why)

abbrev pub over_by : Option Stop → Option Fault
over_by None = None
over_by (Some (Broke why)) = None
over_by (Some (Over why)) = Some why

-- the bytes are those that are due, or a beginning of them if following ended
abbrev pub ArePut : Option Fault → List ℕ → List ℕ → Type 0
ArePut None bytes due = bytes ≡ due
ArePut (Some why) bytes due = IsFront bytes due

-- standard output got the bytes that are due of a name, or a beginning of them if following ended
pub record Puts (visible is_opened : Bool) (name due : List ℕ) (old new : Pen) (over : Option Fault) : Type 0 where
  pub bytes : List ℕ
  pub are : ArePut over bytes due
  pub came : Came visible is_opened name bytes [] old new over

-- if a file is open, it was found to hold this many bytes
abbrev pub HoldsMany : (visible : Bool) → Snapshot → Watched → ℕ → Type 0
HoldsMany visible snapshot watched len = IsLong visible false snapshot watched.name watched.opened len

-- following is over: there was no memory, or standard output is broken; standard error can still get a message
abbrev pub HasStopped : Fault → List Slot → Type 0
HasStopped why slots =
    ((why ≡ fault.Memory) ⊎ ((why ≡ fault.Write 0) × ((slot_at slots 0).is_broken ≡ true))) × HasError slots

-- how the outputs can be used after a call that was stopped in this way, or not
abbrev pub CanGoOn : Option Stop → List Slot → Type 0
CanGoOn None slots = CanPrint slots
CanGoOn (Some (Broke why)) slots = CanPrint slots
CanGoOn (Some (Over why)) slots = HasStopped why slots

-- whether the call that failed was a call on the open file
abbrev pub is_read : Fate → Bool
is_read (unmeasured file) = true
is_read (unsought file from) = true
is_read (unread file from) = true
is_read fate = false

-- the fault of a call on the name of this number, by its fate
abbrev pub fault_by : ℕ → Fate → Fault
fault_by place fate = if is_read fate then fault.Read place else fault.Open place

-- a call on the name of this number failed with this fate, and the name broke
pub record BrokeAt (place : ℕ) (old new : List Watched) (fate : Fate) (why : Fault) : Type 0 where
  pub broke : is_some (broken_by fate) ≡ true
  pub fault_is : why ≡ fault_by place fate
  pub reason : Reason
  pub names : new ≡ changed_at place
      (λ watched. record watched { opened = None; failed = broken_by fate; reason = reason }) old

-- the name of this number broke by a read of its open file, from some place on
abbrev pub FailsToRead : ℕ → List Watched → List Watched → Fault → Type 0
FailsToRead place old new why = (why ≡ fault.Read place)
    × ((from : ℕ) × NameBreaks (λ file. broken.Read file from) place old new)

-- the call changed no name; but if a call on the open file failed, this name broke
abbrev pub Keeps : ℕ → List Watched → List Watched → Fate → Option Stop → Type 0
Keeps place old new fate None = new ≡ old
Keeps place old new fate (Some (Broke why)) = BrokeAt place old new fate why × (is_read fate ≡ true)
Keeps place old new fate (Some (Over why)) = new ≡ old

-- the call opened the file to which the name leads; if it failed, the name broke; no other name changed
abbrev pub Follows : (visible : Bool) → Option ℕ → ℕ → List Watched → List Watched → Fate → Option Stop → Type 0
Follows visible led place old new fate None = (file : Option ℕ) × (new ≡ changed_at place (opens file) old)
    × (visible ≡ true → file ≡ led)
Follows visible led place old new fate (Some (Broke why)) = BrokeAt place old new fate why
Follows visible led place old new fate (Some (Over why)) = (file : Option ℕ) × (new ≡ changed_at place (opens file) old)

-- what a look sees, and whether that and the outputs are visible
pub record Sight : Type 0 where
  pub visible_in : Bool
  pub visible : Bool
  pub snapshot : Snapshot

-- what the last of these looks sees
abbrev pub sight : (visible_in visible : Bool) → List Snapshot → Sight
sight visible_in visible seen = record { visible_in = visible_in; visible = visible; snapshot = latest seen }

-- the watched names, the printer and the outputs between two calls
pub record Moment : Type 0 where
  pub watched : List Watched
  pub pen : Pen

abbrev pub moment : List Watched → PrinterState → List Slot → Moment
moment watched printer slots = record { watched = watched; pen = pen printer slots }

-- What is given by how far calls came: all; if a call on the name failed with this fate, what comes before it; if
-- following ended, a beginning.
abbrev pub ByStop : (Option Fate → List Event → Type 0) → Fate → Option Stop → List Event → Type 0
ByStop Is fate None events = Is (Some sound) events
ByStop Is fate (Some (Broke why)) events = Is (Some fate) events
ByStop Is fate (Some (Over why)) events = (all : List Event) × Is None all × Begins events all

-- the outputs got events of a name
pub record Yields (visible : Bool) (Is : Option Fate → List Event → Type 0) (fate : Fate) (is_opened : Bool)
    (name : List ℕ) (old new : Moment) (stop : Option Stop) : Type 0 where
  pub events : List Event
  pub given : ByStop Is fate stop events
  pub came : Came visible is_opened name (bytes_in events) (remarks_in name events) old.pen new.pen (over_by stop)

-- these are the events, however far calls came
abbrev pub Are : List Event → Option Fate → List Event → Type 0
Are due reach events = events ≡ due

-- Bytes of the open file, of this length, were written from the place `from` on.
pub record Copies (see : Sight) (from place : ℕ) (name : List ℕ) (len : ℕ) (old new : Moment) (stop : Option Stop)
    : Type 0 where
  pub fate : Fate
  pub ends : let known = watched_at old.watched place in
      Yields see.visible
      (ReadOn see.visible_in see.snapshot known.name known.opened from len) fate false name old new stop
  pub keeps : Keeps place old.watched new.watched fate stop

-- The first look wrote its part of the open file. Before that it sought where this part begins, if `seeks` says so.
pub record Starts (see : Sight) (seeks : Bool) (start : List ℕ → List ℕ) (place : ℕ) (name : List ℕ)
    (old new : Moment) (stop : Option Stop) : Type 0 where
  pub fate : Fate
  pub ends : let known = watched_at old.watched place in
      Yields see.visible
      (First see.visible_in see.snapshot known.name known.opened seeks start) fate false name old new stop
  pub keeps : Keeps place old.watched new.watched fate stop

-- A call gave what the open file adds to a name. Before the call `position` bytes of it were seen, and after it all.
pub record Adds (see : Sight) (place : ℕ) (name : List ℕ) (position : ℕ) (old new : Moment)
    (result : Result ℕ Stop) : Type 0 where
  pub fate : Fate
  pub ends : let known = watched_at old.watched place in
      Yields see.visible (Caught see.visible_in see.snapshot known.name known.opened position) fate false name old new
      (stop_in result)
  pub long : IfOk result (HoldsMany see.visible_in see.snapshot (watched_at old.watched place))
  pub keeps : Keeps place old.watched new.watched fate (stop_in result)

-- a call gave what came of where the name leads, and followed the name there, if names are followed
pub record Leads (see : Sight) (by_name : Bool) (place : ℕ) (name : List ℕ) (position : ℕ) (old new : Moment)
    (result : Result ℕ Stop) : Type 0 where
  pub fate : Fate
  pub ends : let known = watched_at old.watched place in
      Yields see.visible (LedTo see.visible_in by_name see.snapshot known.name known.opened) fate false name old new
      (stop_in result)
  pub long : HoldsMany see.visible_in see.snapshot (watched_at old.watched place) position
      → let now = watched_at new.watched place in IfOk result
      (IsLong see.visible_in by_name see.snapshot now.name now.opened)
  pub follows : Follows see.visible_in (open_after_look by_name name (watched_at old.watched place).opened see.snapshot)
      place old.watched new.watched fate (stop_in result)

-- What a later look at a name gives, without the message about a call that failed. Before the look `position` bytes of
-- the open file were seen.
pub record LooksAgain (see : Sight) (by_name : Bool) (place : ℕ) (name : List ℕ) (position : ℕ) (old new : Moment)
    (result : Result ℕ Stop) : Type 0 where
  pub fate : Fate
  pub ends : let known = watched_at old.watched place in
      Yields see.visible
      (Later see.visible_in by_name see.snapshot known.name known.opened position) fate false name old new
      (stop_in result)
  pub long : let now = watched_at new.watched place in
      IfOk result (IsLong see.visible_in by_name see.snapshot now.name now.opened)
  pub follows : Follows see.visible_in (open_after_look by_name name (watched_at old.watched place).opened see.snapshot)
      place old.watched new.watched fate (stop_in result)
