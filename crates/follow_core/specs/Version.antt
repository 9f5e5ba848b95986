-- The versions of a name: what was seen of it, look by look.
use Rattle.std.specs.Prelude.{ℕ, ◌==◌, Bool, true, false, List, [], ◌∷◌, ◌++◌, Option, Some, None, if◌then◌else◌}
use Rattle.watch_core.specs.Snapshot.{Snapshot}

-- a file as a look found it: its identity, and all that it held
pub record Version : Type 0 where
  pub file : ℕ
  pub contents : List ℕ

pub data Entry : Type 0 where
  version : Version → Entry
  -- no file of the name is open after a look
  gap : Entry

abbrev pub version_in : Snapshot → ℕ → Entry
version_in snapshot file = version (record { file = file; contents = snapshot.holds file })

abbrev pub is_file : ℕ → Option ℕ → Bool
is_file file None = false
is_file file (Some other) = file == other

-- whether there are two files, and they are the same
abbrev pub is_same : Option ℕ → Option ℕ → Bool
is_same None other = false
is_same (Some file) other = is_file file other

-- what a file holds; nothing if there is no file
abbrev pub held_at : Snapshot → Option ℕ → List ℕ
held_at snapshot None = []
held_at snapshot (Some file) = snapshot.holds file

-- the file that was open, with what it holds now
abbrev pub entries_open : Snapshot → Option ℕ → List Entry
entries_open snapshot None = []
entries_open snapshot (Some file) = version_in snapshot file ∷ []

-- the file to which the name leads, if it isn't the open one; a gap if the name leads nowhere
abbrev pub entries_led : Snapshot → Option ℕ → Option ℕ → List Entry
entries_led snapshot opened None = gap ∷ []
entries_led snapshot opened (Some file) = if is_file file opened then [] else version_in snapshot file ∷ []

abbrev pub gap_if_none : Option ℕ → List Entry
gap_if_none None = gap ∷ []
gap_if_none (Some file) = []

-- the entries that a look adds if this file was open; the flag says whether the name is followed, or only the open file
abbrev pub entries_at_look : Bool → List ℕ → Option ℕ → Snapshot → List Entry
entries_at_look true name opened snapshot =
    entries_open snapshot opened ++ entries_led snapshot opened (snapshot.leads name)
entries_at_look false name opened snapshot = entries_open snapshot opened ++ gap_if_none opened

-- the file that is open after a look, if this file was open before it
abbrev pub open_after_look : Bool → List ℕ → Option ℕ → Snapshot → Option ℕ
open_after_look true name opened snapshot = snapshot.leads name
open_after_look false name opened snapshot = opened

abbrev pub entries_later : Bool → List ℕ → Option ℕ → List Snapshot → List Entry
entries_later by_name name opened [] = []
entries_later by_name name opened (snapshot ∷ snapshots) =
    entries_at_look by_name name opened snapshot
    ++ entries_later by_name name (open_after_look by_name name opened snapshot) snapshots

-- the entries of a name in these looks; the first look opens the file to which the name leads, if there is one
abbrev pub entries_of : Bool → List ℕ → List Snapshot → List Entry
entries_of by_name name [] = []
entries_of by_name name (first ∷ later) =
    entries_led first None (first.leads name) ++ entries_later by_name name (first.leads name) later

abbrev pub open_after_later : Bool → List ℕ → Option ℕ → List Snapshot → Option ℕ
open_after_later by_name name opened [] = opened
open_after_later by_name name opened (snapshot ∷ snapshots) =
    open_after_later by_name name (open_after_look by_name name opened snapshot) snapshots

-- the file of a name that is open after these looks
abbrev pub open_after : Bool → List ℕ → List Snapshot → Option ℕ
open_after by_name name [] = None
open_after by_name name (first ∷ later) = open_after_later by_name name (first.leads name) later
