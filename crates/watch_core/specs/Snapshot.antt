-- What one look can see: to which file each name leads, what each file holds, which processes are gone, and how soon
-- the look begins. There are three other kinds of looks: a name that can't be read counts as missing; a call on a
-- missing name fails; or a name leads to the file to which it led first.
use Rattle.std.specs.{
  Prelude.{◌≡◌, ℕ, zero, suc, ◌==◌, Bool, true, false, not, ◌&&◌, List, [], ◌∷◌, Option, Some, None, if◌then◌else◌},
  List.list_any,
}
use Rattle.ports_core.specs.declared.reason.Reason.{Reason, TheVariants.Missing}

-- what a call on a name finds
pub data Finding : Type 0 where
  -- the name leads to this file, or nowhere
  leads_to : Option ℕ → Finding
  -- this file was opened, or none was there
  opens_as : Option ℕ → Finding
  -- this file, which is open, has this number of bytes
  holds_many : Option ℕ → ℕ → Finding
  -- a read of this open file from a place on, into a buffer with room, gave these bytes
  reads_as : Option ℕ → ℕ → List ℕ → Finding

-- whether the call found that a name leads nowhere
abbrev pub is_nowhere : Finding → Bool
is_nowhere (leads_to None) = true
is_nowhere (opens_as None) = true
is_nowhere finding = false

pub record Snapshot : Type 0 where
  -- the file to which a name leads, by its identity
  pub leads : List ℕ → Option ℕ
  -- why this name can't be opened, if it leads nowhere
  pub missing : List ℕ → Reason
  -- what a file holds, also if no name leads to it any more
  pub holds : ℕ → List ℕ
  -- Whether a call on this name can find this. Contracts of a watch say so only of what its calls found.
  pub finds : List ℕ → Finding → Bool
  -- whether this name can't be opened or read
  pub barred : List ℕ → Bool
  -- whether a call on this name can fail in this look
  pub breaks : List ℕ → Bool
  -- whether a call fails instead of finding that a name leads nowhere
  pub insists : Bool
  -- Whether it can be found before the look that no process of this number runs. Contracts of a watch say so only of
  -- processes that were found to be gone.
  pub lacks : ℕ → Bool
  -- the look begins at most this many milliseconds after the look before it, if no change is seen
  pub within : ℕ

abbrev pub no_files : Snapshot
no_files = record {
  leads = λ name. None;
  missing = λ name. Missing;
  holds = λ file. [];
  finds = λ name finding. true;
  barred = λ name. false;
  breaks = λ name. true;
  insists = false;
  lacks = λ process. false;
  within = 1000;
}

-- whether a byte of a name is 0: no file has such a name
abbrev pub has_zero : List ℕ → Bool
has_zero name = list_any (λ byte. byte == 0) name

-- this look if it forgives: a name that can't be read counts as missing, and a call fails only on a name with a byte 0
abbrev pub forgiving : Snapshot → Snapshot
forgiving snapshot = record snapshot {
  leads = λ name. if snapshot.barred name then None else snapshot.leads name;
  breaks = has_zero;
  insists = false;
}

-- this look if it insists: a call on a name that leads nowhere fails
abbrev pub insisting : Snapshot → Snapshot
insisting snapshot = record snapshot { breaks = λ name. true; insists = true }

-- the first of these files, or the second if there is none
abbrev pub or_else : Option ℕ → Option ℕ → Option ℕ
or_else None second = second
or_else (Some file) second = Some file

-- the first file to which a name leads at one of the first n looks
abbrev pub first_led : (ℕ → Option ℕ) → ℕ → Option ℕ
first_led leads zero = None
first_led leads (suc n) = or_else (first_led leads n) (leads n)

-- Look n if looks cling: a name leads to the first file to which it led at a look up to this one, and a name that can't
-- be read counts as missing. The length or the bytes of an open file can be refused, so a call on any name can fail.
abbrev pub clinging : (ℕ → Snapshot) → ℕ → Snapshot
clinging shows n = record (forgiving (shows n)) {
  leads = λ name. first_led (λ look. (forgiving (shows look)).leads name) (suc n);
  barred = λ name. false;
  breaks = λ name. true;
}

-- this look if it begins within this number of milliseconds
abbrev pub waiting : (milliseconds : ℕ) → Snapshot → Snapshot
waiting milliseconds snapshot = record snapshot { within = milliseconds }

-- in this look a call on this name can find this
abbrev pub Found : Snapshot → List ℕ → Finding → Type 0
Found snapshot name finding = (snapshot.finds name finding && not (snapshot.insists && is_nowhere finding)) ≡ true

-- the snapshot of the last look
abbrev pub latest : List Snapshot → Snapshot
latest [] = no_files
latest (snapshot ∷ []) = snapshot
latest (snapshot ∷ next ∷ snapshots) = latest (next ∷ snapshots)
