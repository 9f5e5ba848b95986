-- What a look gives for a name, step by step: lines that report what it found, and bytes.
use Rattle.std.specs.Prelude.{ℕ, ◌-◌, List, [], ◌∷◌, ◌++◌, Option, Some, None, drop, length, take, is_some, nat_lt}
use Rattle.std.specs.Prelude.{if◌then◌else◌}
use Rattle.engine_core.specs.Written.{IsBeginning}
use Rattle.watch_core.specs.Snapshot.{Snapshot}
use Rattle.follow_core.specs.{
  declared.notice.Notice.{Notice, TheVariants.{Truncated, Replaced, Inaccessible, Appeared}},
  Telling.{Remark, found},
  Version.is_file,
}

pub data Event : Type 0 where
  -- a line that reports this
  notes : Notice → Event
  -- bytes of the name's file
  gives : List ℕ → Event

-- the bytes of all events, for standard output
abbrev pub bytes_in : List Event → List ℕ
bytes_in [] = []
bytes_in (notes notice ∷ events) = bytes_in events
bytes_in (gives bytes ∷ events) = bytes ++ bytes_in events

-- what all events say of this name, for standard error
abbrev pub remarks_in : List ℕ → List Event → List Remark
remarks_in name [] = []
remarks_in name (notes notice ∷ events) = found notice name ∷ remarks_in name events
remarks_in name (gives bytes ∷ events) = remarks_in name events

-- the line that an open file is shorter than what was seen of it, if it is
abbrev pub notes_past : (seen len : ℕ) → List Event
notes_past seen len = if nat_lt len seen then notes Truncated ∷ [] else []

-- what changed, if the first file is open and the name leads to the second
abbrev pub change_between : Option ℕ → Option ℕ → Option Notice
change_between None None = None
change_between (Some opened) None = Some Inaccessible
change_between opened (Some file) = if is_file file opened then None
    else Some (if is_some opened then Replaced else Appeared)

-- where bytes of a file of this length begin that are due, if this many were seen: past these, or at the front of a
-- file that is shorter
abbrev pub due_from : (seen len : ℕ) → ℕ
due_from seen len = if nat_lt len seen then 0 else seen

-- what came of the open file, if this many bytes of it were seen: if it is shorter now, a line that says so
abbrev pub came_of : Snapshot → (opened : Option ℕ) → (seen : ℕ) → List Event
came_of snapshot None seen = []
came_of snapshot (Some file) seen = notes_past seen (length (snapshot.holds file))
    ++ gives (drop (due_from seen (length (snapshot.holds file))) (snapshot.holds file)) ∷ []

-- all that a file holds
abbrev pub all_held : Snapshot → Option ℕ → List Event
all_held snapshot None = []
all_held snapshot (Some file) = gives (snapshot.holds file) ∷ []

-- these events after a line about a change; nothing if nothing changed
abbrev pub after_change : Option Notice → List Event → List Event
after_change None events = []
after_change (Some notice) events = notes notice ∷ events

-- the lines before the first bytes
abbrev pub notes_in : List Event → List Event
notes_in [] = []
notes_in (notes notice ∷ events) = notes notice ∷ notes_in events
notes_in (gives bytes ∷ events) = []

-- the events up to the first bytes, and of these bytes all but the last `left`
abbrev pub all_but : (left : ℕ) → List Event → List Event
all_but left [] = []
all_but left (notes notice ∷ events) = notes notice ∷ all_but left events
all_but left (gives bytes ∷ events) = gives (take (length bytes - left) bytes) ∷ []

-- the first events are a beginning of the second: they end between two events, or within the bytes of one event
pub data Begins : List Event → List Event → Type 0 where
  begins_none : {all : List Event} → Begins [] all
  begins_within : {bytes all : List ℕ} {later : List Event} → IsBeginning bytes all
      → Begins (gives bytes ∷ []) (gives all ∷ later)
  begins_on : {event : Event} {part all : List Event} → Begins part all → Begins (event ∷ part) (event ∷ all)
