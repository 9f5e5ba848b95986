-- The names that are watched: which file of each is open, and by which call it broke and why.
use Rattle.std.specs.{
  Prelude.{is_none, is_some, ◌≡◌, ℕ, Bool, true, ◌&&◌, List, [], Option, Some, None, length, drop, option_map},
  Prelude.{bytes_eq, codes, slice_index_or},
}
use Rattle.ports_core.specs.{
  declared.reason.Reason.{Reason, TheVariants.Other},
  Slot.changed_at,
  Source.{Gave, unshown},
}
use Rattle.watch_core.specs.{Snapshot.{Snapshot, Found, latest, opens_as}, declared.watch.{Broken.Broken, Seen.Seen}}
use Rattle.watch_core.specs.declared.watch.Broken.TheVariants as broken

pub record Watched : Type 0 where
  pub name : List ℕ
  -- the file that is open, by its identity
  pub opened : Option ℕ
  -- the first call on the name that failed, if any did; the name is broken then
  pub failed : Option Broken
  -- why that call failed; `Other` if no call failed
  pub reason : Reason

-- whether this is the name of standard input
abbrev pub is_input : List ℕ → Bool
is_input name = bytes_eq name (codes "-")

-- what stands at a place if no name was added there
abbrev pub no_name : Watched
no_name = record { name = []; opened = None; failed = Some broken.Look; reason = Other }

abbrev pub watched_at : List Watched → ℕ → Watched
watched_at names place = slice_index_or names place no_name

-- a name that was just added: no file of it is open
abbrev pub added : List ℕ → Watched
added name = record { name = name; opened = None; failed = None; reason = Other }

-- the state of a name once this file of it is open, or none
abbrev pub opens : Option ℕ → Watched → Watched
opens file watched = record watched { opened = file }

-- the name broke by this call and for this reason; the file that was open is closed
abbrev pub breaks : Reason → (Option ℕ → Broken) → Watched → Watched
breaks why how watched = record watched { opened = None; failed = Some (how watched.opened); reason = why }

-- the name at this place broke by this call, for some reason, and no other name changed
abbrev pub NameBreaks : (Option ℕ → Broken) → ℕ → List Watched → List Watched → Type 0
NameBreaks how place old new = (why : Reason) × (new ≡ changed_at place (breaks why how) old)

-- a call on the name at this place can fail in the last of these looks
abbrev pub CanBreak : List Snapshot → List Watched → ℕ → Type 0
CanBreak seen names place = (latest seen).breaks (watched_at names place).name ≡ true

-- whether there is a name at this place that isn't broken
abbrev pub is_watchable : List Watched → ℕ → Bool
is_watchable names place = is_none (watched_at names place).failed

-- whether a file of the name at this place is open, and the name isn't broken
abbrev pub is_readable : List Watched → ℕ → Bool
is_readable names place = is_some (watched_at names place).opened && is_watchable names place

-- a file as a look reports it: its identity, and how many bytes it holds
abbrev pub file_seen : Snapshot → ℕ → Seen
file_seen snapshot file = record { id = file; len = length (snapshot.holds file) }

-- `found` is the file to which the name leads, or none
abbrev pub Finds : Snapshot → List ℕ → Option Seen → Type 0
Finds snapshot name found = found ≡ option_map (file_seen snapshot) (snapshot.leads name)

-- what the open file holds; nothing if no file is open
abbrev pub open_contents : Snapshot → Watched → List ℕ
open_contents snapshot watched = elim watched.opened [
  | None ↦ []
  | Some file ↦ snapshot.holds file
]

-- the file to which the name leads was opened in place of the open file; if the name leads nowhere, no file is open
pub record Reopens (visible : Bool) (snapshot : Snapshot) (old new : List Watched) (place : ℕ)
    (is_there : Bool) : Type 0 where
  pub file : Option ℕ
  pub found : is_some file ≡ is_there
  pub names : new ≡ changed_at place (opens file) old
  pub leads : visible ≡ true → file ≡ snapshot.leads (watched_at old place).name
  pub opens : Found snapshot (watched_at old place).name (opens_as file)

-- a read of the file from a place on gave these bytes; it gave none only at the end or past it, or into no room
abbrev pub GaveFrom : List ℕ → ℕ → List ℕ → List ℕ → ℕ → Type 0
GaveFrom contents from old new n = Gave (unshown (drop from contents)) old new n
