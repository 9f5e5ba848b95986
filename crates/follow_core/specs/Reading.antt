-- What is given for a name by what the calls on it found, even if the bytes of files aren't visible.
use Rattle.std.specs.{
  Prelude.{◌≡◌, ◌⊎◌, ◌<◌, ◌≤◌, ◌+◌, ℕ, Bool, true, false, not, ◌&&◌, List, [], ◌∷◌, ◌++◌, Option, Some, None},
  Prelude.{drop, is_some, length, slice_index_or, take},
}
use Rattle.watch_core.specs.Snapshot.{Finding, Snapshot, Found, latest, holds_many, leads_to, opens_as, reads_as}
use Rattle.follow_core.specs.{
  declared.notice.Notice.Notice,
  Event.{Begins, Event, change_between, due_from, gives, notes, notes_past},
  Look.{Fate, Look, Visit, Ways, sound, unled, unmeasured, unopened, unread, unsought, is_dropped, is_first, snapshots},
  Look.visit_at,
  Share.{Share, failure_of, is_unopened, missing_share, no_share, opened_in, seen_in, share_of},
  Version.held_at,
}

-- what a call finds on a name is true of this snapshot; a read gives no bytes only from the end on
abbrev pub Shows : Snapshot → List ℕ → Finding → Type 0
Shows snapshot name (leads_to led) = led ≡ snapshot.leads name
Shows snapshot name (opens_as file) = file ≡ snapshot.leads name
Shows snapshot name (holds_many file len) = len ≡ length (held_at snapshot file)
Shows snapshot name (reads_as file at bytes) = (bytes ≡ take (length bytes) (drop at (held_at snapshot file)))
    × (bytes ≡ [] → length (held_at snapshot file) ≤ at)

-- a call on a name can find this; if what the look sees is visible, it is also true of the snapshot
abbrev pub Saw : Bool → Snapshot → List ℕ → Finding → Type 0
Saw visible snapshot name finding = Found snapshot name finding × (visible ≡ true → Shows snapshot name finding)

-- reads of this file gave these bytes, from one place up to another; each read began where the read before it ended
pub data AreRead (visible : Bool) (snapshot : Snapshot) (name : List ℕ) (file : Option ℕ) (from : ℕ) : List ℕ → ℕ
    → Type 0 where
  none_read : AreRead visible snapshot name file from [] from
  one_more : {bytes : List ℕ} {at : ℕ} (piece : List ℕ) → AreRead visible snapshot name file from bytes at
      → Saw visible snapshot name (reads_as file at piece)
      → AreRead visible snapshot name file from (bytes ++ piece) (at + length piece)

-- Reads of a file of this length gave these bytes, from `from` on: up to the length, or until a read gave nothing; up
-- to a read that failed; or as far as following went. Here and below an index of type `Option Fate` says how far calls
-- came. `Some sound`: all were made. `Some fate`: the call of this fate failed. `None`: following ended before, and the
-- outputs got a beginning of the events.
pub data ReadOn (visible : Bool) (snapshot : Snapshot) (name : List ℕ) (file : Option ℕ) (from len : ℕ) : Option Fate
    → List Event → Type 0 where
  read_all : {bytes : List ℕ} {at : ℕ} → AreRead visible snapshot name file from bytes at
      → (len ≤ at) ⊎ Saw visible snapshot name (reads_as file at [])
      → ReadOn visible snapshot name file from len (Some sound) (gives bytes ∷ [])
  read_part : {bytes : List ℕ} {at : ℕ} → AreRead visible snapshot name file from bytes at → at < len
      → snapshot.breaks name ≡ true
      → ReadOn visible snapshot name file from len (Some (unread file at)) (gives bytes ∷ [])
  read_none : ReadOn visible snapshot name file from len None []
  read_some : {bytes : List ℕ} {at : ℕ} → AreRead visible snapshot name file from bytes at
      → ReadOn visible snapshot name file from len None (gives bytes ∷ [])

-- what came of this open file, of which `seen` bytes were seen
pub data Caught (visible : Bool) (snapshot : Snapshot) (name : List ℕ) (file : Option ℕ) (seen : ℕ) : Option Fate
    → List Event → Type 0 where
  not_open : file ≡ None → Caught visible snapshot name file seen (Some sound) []
  not_measured : is_some file ≡ true → snapshot.breaks name ≡ true
      → Caught visible snapshot name file seen (Some (unmeasured file)) []
  measured : {len : ℕ} {reach : Option Fate} {events : List Event} → is_some file ≡ true
      → Saw visible snapshot name (holds_many file len)
      → ReadOn visible snapshot name file (due_from seen len) len reach events
      → Caught visible snapshot name file seen reach (notes_past seen len ++ events)

-- the name was found to lead elsewhere than to this open file, which is this change
pub record Changed (visible : Bool) (snapshot : Snapshot) (name : List ℕ) (opened : Option ℕ) (notice : Notice)
    : Type 0 where
  pub led : Option ℕ
  pub saw : Saw visible snapshot name (leads_to led)
  pub is : change_between opened led ≡ Some notice

-- what came of where the name leads, if this file was open and names are followed
pub data LedTo (visible by_name : Bool) (snapshot : Snapshot) (name : List ℕ) (opened : Option ℕ) : Option Fate
    → List Event → Type 0 where
  not_asked : by_name ≡ false → LedTo visible by_name snapshot name opened (Some sound) []
  not_led : by_name ≡ true → snapshot.breaks name ≡ true → LedTo visible by_name snapshot name opened (Some unled) []
  unchanged : {led : Option ℕ} → by_name ≡ true → Saw visible snapshot name (leads_to led)
      → change_between opened led ≡ None → LedTo visible by_name snapshot name opened (Some sound) []
  not_told : {notice : Notice} → by_name ≡ true → Changed visible snapshot name opened notice
      → LedTo visible by_name snapshot name opened None (notes notice ∷ [])
  not_opened : {notice : Notice} → by_name ≡ true → Changed visible snapshot name opened notice
      → snapshot.breaks name ≡ true
      → LedTo visible by_name snapshot name opened (Some unopened) (notes notice ∷ [])
  opened_there : {notice : Notice} {file : Option ℕ} {reach : Option Fate} {events : List Event} → by_name ≡ true
      → Changed visible snapshot name opened notice → Saw visible snapshot name (opens_as file)
      → Caught visible snapshot name file 0 reach events
      → LedTo visible by_name snapshot name opened reach (notes notice ∷ events)

-- what a later look gives for a name of whose open file `seen` bytes were seen
pub data Later (visible by_name : Bool) (snapshot : Snapshot) (name : List ℕ) (opened : Option ℕ)
    (seen : ℕ) : Option Fate
    → List Event → Type 0 where
  came_early : {reach : Option Fate} {events : List Event} → (reach ≡ Some sound → ⊥)
      → Caught visible snapshot name opened seen reach events
      → Later visible by_name snapshot name opened seen reach events
  came_all : {reach : Option Fate} {came led : List Event} → Caught visible snapshot name opened seen (Some sound) came
      → LedTo visible by_name snapshot name opened reach led
      → Later visible by_name snapshot name opened seen reach (came ++ led)

-- what the first look gives of this file, which it opened: bytes from the place on at which the start part begins
pub data First (visible : Bool) (snapshot : Snapshot) (name : List ℕ) (file : Option ℕ) (seeks : Bool)
    (start : List ℕ → List ℕ) : Option Fate → List Event → Type 0 where
  not_begun : First visible snapshot name file seeks start None []
  first_unmeasured : snapshot.breaks name ≡ true
      → First visible snapshot name file seeks start (Some (unmeasured file)) []
  first_unsought : {from : ℕ} → seeks ≡ true → snapshot.breaks name ≡ true
      → First visible snapshot name file seeks start (Some (unsought file from)) []
  begun : {from len : ℕ} {reach : Option Fate} {events : List Event} → Saw visible snapshot name (holds_many file len)
      → (visible ≡ true → drop from (held_at snapshot file) ≡ start (held_at snapshot file))
      → ReadOn visible snapshot name file from len reach events
      → First visible snapshot name file seeks start reach events

-- A look left this file open, and found `held` bytes in it; or it left none open, since the name leads nowhere. That is
-- known only if names are followed.
abbrev pub IsLong : (visible by_name : Bool) → Snapshot → List ℕ → Option ℕ → (held : ℕ) → Type 0
IsLong visible by_name snapshot name None held = by_name ≡ true → Saw visible snapshot name (leads_to None)
    ⊎ Saw visible snapshot name (opens_as None)
IsLong visible by_name snapshot name (Some file) held = Saw visible snapshot name (holds_many (Some file) held)

-- what a look after these gives for a name, by what its calls found and by what the look before it left open
pub data LookGives (visible : Bool) (ways : Ways) : List Look → Snapshot → List ℕ → Option Fate → List Event
    → Type 0 where
  at_first : {snapshot : Snapshot} {name : List ℕ} {reach : Option Fate} {events : List Event} (file : ℕ)
      → Saw visible snapshot name (opens_as (Some file))
      → First visible snapshot name (Some file) ways.seeks ways.start reach events
      → LookGives visible ways [] snapshot name reach events
  at_later : {first : Look} {looks : List Look} {snapshot : Snapshot} {name : List ℕ} {reach : Option Fate}
      {events : List Event} (opened : Option ℕ) (seen : ℕ)
      → IsLong visible ways.by_name (latest (snapshots (first ∷ looks))) name opened seen
      → Later visible ways.by_name snapshot name opened seen reach events
      → LookGives visible ways (first ∷ looks) snapshot name reach events

-- What calls of a look after these find on a name, if that is visible: at the first look, of the file to which the name
-- leads; at a later look, of the file that the looks before left open.
abbrev pub CallsFind : Ways → List ℕ → List Look → Look → Option Fate → List Event → Type 0
CallsFind ways name [] look reach events = (file : ℕ) × (look.snapshot.leads name ≡ Some file)
    × First true look.snapshot name (Some file) ways.seeks ways.start reach events
CallsFind ways name (first ∷ looks) look reach events = Later true ways.by_name look.snapshot name
    (opened_in ways name (first ∷ looks)) (seen_in ways name (first ∷ looks)) reach events

-- what a look after these gives for a name that wasn't dropped, by its visit and by what its calls found
pub record IsFound (visible : Bool) (ways : Ways) (before : List Look) (snapshot : Snapshot) (name : List ℕ)
    (visit : Visit) (share : Share) : Type 0 where
  pub named : share.name ≡ name
  pub opened : share.is_opened ≡ (not (is_unopened visit.fate) && is_first before)
  pub failed : share.failure ≡ failure_of visit
  -- the first look gives nothing of a name that it can't open
  pub events : ((is_first before ≡ true) × (visit.fate ≡ unopened) × (share.events ≡ []))
      ⊎ LookGives visible ways before snapshot name (Some visit.fate) share.events
  -- a call on the name failed only if a call on it can fail in this look
  pub broke : (visit.fate ≡ sound) ⊎ (snapshot.breaks name ≡ true)

-- the name was found to lead nowhere at the first look, and the look gives the message about that
pub record IsMissing (visible : Bool) (before : List Look) (snapshot : Snapshot) (name : List ℕ) (visit : Visit)
    (share : Share) : Type 0 where
  pub first : is_first before ≡ true
  pub kept : visit.fate ≡ sound
  pub nowhere : Saw visible snapshot name (opens_as None)
  pub is : share ≡ missing_share name visit.why

-- What a look after these gives for the name of this number, by what its calls found. If what the look sees is visible,
-- that is its share.
pub record IsGiven (visible : Bool) (ways : Ways) (before : List Look) (look : Look) (place : ℕ) (name : List ℕ)
    (share : Share) : Type 0 where
  pub is : visible ≡ true → share ≡ share_of ways before look place name
  pub found : ((is_dropped place before ≡ true) × (share ≡ no_share name))
      ⊎ ((is_dropped place before ≡ false) × (IsFound visible ways before look.snapshot name (visit_at place look) share
      ⊎ IsMissing visible before look.snapshot name (visit_at place look) share))

-- what a look after these gives for the names in order; the first name has this number
pub data AreAtLook (visible : Bool) (ways : Ways) (before : List Look) (look : Look) : ℕ → List (List ℕ) → List Share
    → Type 0 where
  no_names : {place : ℕ} → AreAtLook visible ways before look place [] []
  names_more : {place : ℕ} {name : List ℕ} {names : List (List ℕ)} {share : Share} {shares : List Share}
      → IsGiven visible ways before look place name share → AreAtLook visible ways before look (place + 1) names shares
      → AreAtLook visible ways before look place (name ∷ names) (share ∷ shares)

-- What all looks give, look by look. If what they see is visible, that is `shares_of`.
pub data AreFound (visible : Bool) (ways : Ways) (names : List (List ℕ)) : List Look → List Share → Type 0 where
  no_looks : AreFound visible ways names [] []
  looks_more : {looks : List Look} {look : Look} {shares more : List Share} → AreFound visible ways names looks shares
      → AreAtLook visible ways looks look ways.first names more
      → AreFound visible ways names (looks ++ look ∷ []) (shares ++ more)

-- whatever looks found of these names, this is true of the number of each name and the name
abbrev pub OfEachName : (visible : Bool) → Ways → List (List ℕ) → List Look → (ℕ → List ℕ → Type 0) → Type 0
OfEachName visible ways names looks Is = (shares : List Share) → AreFound visible ways names looks shares
    → (place : ℕ) → place < length names → Is (ways.first + place) (slice_index_or names place [])

-- in none of these looks a call on this name can fail
abbrev pub NoneBreaks : List ℕ → List Look → Type 0
NoneBreaks name [] = Unit {0}
NoneBreaks name (look ∷ looks) = (look.snapshot.breaks name ≡ false) × NoneBreaks name looks

-- in each of these looks a call on a name that leads nowhere fails
abbrev pub AllInsist : List Look → Type 0
AllInsist [] = Unit {0}
AllInsist (look ∷ looks) = (look.snapshot.insists ≡ true) × AllInsist looks

-- at one of these looks this name leads nowhere
abbrev pub LeadsNowhere : List ℕ → List Look → Type 0
LeadsNowhere name [] = ⊥
LeadsNowhere name (look ∷ looks) = (look.snapshot.leads name ≡ None) ⊎ LeadsNowhere name looks

-- a beginning of what a look gives for a name on which no call failed
pub record IsBegun (visible : Bool) (ways : Ways) (before : List Look) (snapshot : Snapshot) (name : List ℕ)
    (share : Share) : Type 0 where
  pub named : share.name ≡ name
  pub opened : share.is_opened ≡ is_first before
  pub unfailed : share.failure ≡ None
  pub all : List Event
  pub begins : Begins share.events all
  pub events : LookGives visible ways before snapshot name None all
