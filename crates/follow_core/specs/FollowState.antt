-- Following: its names and how they stand, from one look to the next.
use Rattle.std.specs.{
  Prelude.{◌≡◌, ◌⊎◌, ◌<◌, ◌∷◌, ◌++◌, ◌+◌, ℕ, Bool, true, false, not, ◌&&◌, ◌||◌, List, [], length, map, take},
  Prelude.{slice_index_or, is_some},
}
use Rattle.ports_core.specs.{
  Slot.{Slot, Rose},
  declared.{calling.Calling.Calling, fault.Fault.{Fault, TheVariants.{Failed, Memory, Write}}},
}
use Rattle.watch_core.specs.{Snapshot.Snapshot, Watched.{Watched, watched_at}}
use Rattle.follow_core.specs.{
  declared.{
    follow.Phase.{Phase, TheVariants.{Fresh, Looking, Over}},
    name.Standing.TheVariants.New,
    start.Start.Start,
  },
  Sharing.{CanPrint, AllShared, AllShort},
  Followed.any_failed,
  Look.{Look, Visit, Ways, is_dropped, snapshots, ways_of},
  Share.{BeginsShare, Share, share_of},
  Printing.{PrinterState, fresh_printer},
  Reading.{AreAtLook, AreFound, IsBegun},
  Standing.{AllStand, AreWatched, CanVisit, NameState, state_at, texts},
  Version.open_after,
}

pub record FollowState : Type 0 where
  pub by_name : Bool
  pub start : Start
  pub names : List NameState
  -- the number of the first name, once the names are watched
  pub first : ℕ
  pub printer : PrinterState
  pub phase : Phase
  -- whether a name was missing at the first look, a call on a name failed, or a fault ended following
  pub has_failed : Bool

abbrev pub new_state : List ℕ → NameState
new_state name = record { text = name; standing = New }

-- following with these names, before the first look
abbrev pub opened_follow : Calling → Bool → Start → Bool → List (List ℕ) → FollowState
opened_follow calling by_name start headers names =
    record {
      by_name = by_name;
      start = start;
      names = map new_state names;
      first = 0;
      printer = fresh_printer calling headers;
      phase = Fresh;
      has_failed = false;
    }

-- each name can be looked at, if the first has this number
abbrev pub AllReady : List NameState → (first : ℕ) → List Watched → Type 0
AllReady names first watched =
    (place : ℕ) → place < length names → CanVisit (state_at names place) (watched_at watched (first + place))

-- the next look can be made; the first look needs no watched names, and if following is over nothing is needed
abbrev pub CanLook : FollowState → List Watched → List Slot → Type 0
CanLook follow watched slots = elim follow.phase [
  | Fresh ↦ CanPrint slots
  | Looking ↦ AllReady follow.names follow.first watched × CanPrint slots
  | Over ↦ Unit {0}
]

-- a look leaves the watched name of this number as it is: it is no name of this following, or following is over
abbrev pub IsOther : FollowState → List Watched → ℕ → Type 0
IsOther follow watched number = elim follow.phase [
  | Fresh ↦ number < length watched
  | Looking ↦ (place : ℕ) → place < length follow.names → number ≡ follow.first + place → ⊥
  | Over ↦ Unit {0}
]

-- Before the first look the names are new, and will be watched after those that are watched already. Then they are
-- watched there, and each stands as after these looks.
abbrev pub StandsIn : Bool → Ways → List Look → List NameState → List Watched → Phase → Type 0
StandsIn visible ways looks names watched Fresh = (looks ≡ []) × (names ≡ map new_state (texts names))
    × (length watched ≡ ways.first)
StandsIn visible ways looks names watched Looking = AllStand visible ways looks names watched
    × (length watched ≡ ways.first + length names)
StandsIn visible ways looks names watched Over = ⊥

-- What is asked of following: how `tail` was called, how these names are followed, and whether headers are written; and
-- the outputs as they were before.
pub record Asked : Type 0 where
  pub calling : Calling
  pub ways : Ways
  pub headers : Bool
  pub names : List (List ℕ)
  -- the outputs as they were before
  pub first : List Slot

-- following at one moment, with the names that are watched and the outputs
pub record Point : Type 0 where
  pub follow : FollowState
  pub watched : List Watched
  pub slots : List Slot

abbrev pub point : FollowState → List Watched → List Slot → Point
point follow watched slots = record { follow = follow; watched = watched; slots = slots }

-- These looks were made. The outputs got exactly what the looks give. Even if what looks see isn't visible, they give
-- what their calls found.
pub record Holds (visible_in visible : Bool) (asked : Asked) (looks : List Look) (now : Point) : Type 0 where
  pub way : asked.ways ≡ ways_of now.follow.by_name now.follow.start asked.ways.first
  pub same : texts now.follow.names ≡ asked.names
  pub numbered : now.follow.phase ≡ Looking → 0 < length asked.names → now.follow.first ≡ asked.ways.first
  pub stand : StandsIn visible_in asked.ways looks now.follow.names now.watched now.follow.phase
  pub shares : List Share
  pub found : AreFound visible_in asked.ways asked.names looks shares
  pub shared : AllShared visible (fresh_printer asked.calling asked.headers) shares asked.first now.follow.printer
      now.slots
  pub failed : any_failed shares ≡ now.follow.has_failed

-- What a look that was stopped gave: nothing; or it came to the name at a place. There are visits for the names before
-- this place, and no call on this name or a later name failed. The names before it have all that the look gives them,
-- in `whole`. This name has a beginning of what the look gives it, the only share in `part`. Names broke exactly if one
-- of these looks says so.
pub data Begun (visible_in : Bool) (ways : Ways) (names : List (List ℕ)) (looks : List Look) (snapshot : Snapshot)
    (watched : List Watched) : (whole part : List Share) → Type 0 where
  nothing : AreWatched ways looks names watched → Begun visible_in ways names looks snapshot watched [] []
  up_to : (visits : List Visit) (place : ℕ) (shares : List Share) (share : Share)
      → length visits ≡ ways.first + place → place < length names
      → AreWatched ways (looks ++ record { snapshot = snapshot; visits = visits } ∷ []) names watched
      → AreAtLook visible_in ways looks (record { snapshot = snapshot; visits = visits }) ways.first (take place names)
      shares
      → IsBegun visible_in ways looks snapshot (slice_index_or names place []) share
      → (visible_in ≡ true → BeginsShare share
      (share_of ways looks (record { snapshot = snapshot; visits = visits }) (ways.first + place)
      (slice_index_or names place [])))
      → Begun visible_in ways names looks snapshot watched shares (share ∷ [])

-- Following ended in the look after these, before the first name or at a name. The outputs got all that these looks
-- give, all that this look gives for the names before that name, and a beginning of what it gives for that name.
pub record Halted (visible_in visible : Bool) (asked : Asked) (looks : List Look) (snapshot : Snapshot)
    (watched : List Watched) (slots : List Slot) (why : Fault) : Type 0 where
  pub shares : List Share
  pub found : AreFound visible_in asked.ways asked.names looks shares
  pub whole : List Share
  pub part : List Share
  pub begun : Begun visible_in asked.ways asked.names looks snapshot watched whole part
  pub printer : PrinterState
  pub reached : List Slot
  pub shared : AllShared visible (fresh_printer asked.calling asked.headers)
      (shares ++ whole) asked.first printer reached
  pub short : AllShort visible printer part reached slots why

-- why a look was stopped: there was no memory, or standard output broke in it, or following was over before
pub data IsCause (old : FollowState) (slots slots_new : List Slot) : Fault → Type 0 where
  lacks_memory : IsCause old slots slots_new Memory
  output_broke : Rose 0 slots slots_new → IsCause old slots slots_new (Write 0)
  was_over : old.phase ≡ Over → IsCause old slots slots_new Failed

-- a look that was stopped saw the files, or was stopped before that
abbrev pub SawOrNot : List Snapshot → Snapshot → List Snapshot → Type 0
SawOrNot seen snapshot seen_new = (seen_new ≡ seen) ⊎ (seen_new ≡ seen ++ snapshot ∷ [])

-- whatever looks were made before, one more look was made, which saw this
abbrev pub LooksOn : (visible_in visible : Bool) → Snapshot → (old new : Point) → Type 0
LooksOn visible_in visible snapshot old new = (asked : Asked) (looks : List Look)
    → Holds visible_in visible asked looks old
    → (visits : List Visit)
    × Holds visible_in visible asked (looks ++ record { snapshot = snapshot; visits = visits } ∷ []) new

-- whatever looks were made before, the next look was stopped
abbrev pub StopsOn : (visible_in visible : Bool) → Snapshot → Point → List Watched → List Slot → Fault → Type 0
StopsOn visible_in visible snapshot old watched slots why = (asked : Asked) (looks : List Look)
    → Holds visible_in visible asked looks old → Halted visible_in visible asked looks snapshot watched slots why

-- whether the name of this number goes on: it wasn't dropped, and it is followed by name or a file of it is open
abbrev pub goes_on_at : Ways → List Look → ℕ → List ℕ → Bool
goes_on_at ways looks place name = not (is_dropped place looks)
    && (ways.by_name || is_some (open_after ways.by_name name (snapshots looks)))

-- whether one of the names from this place on goes on
abbrev pub is_alive_from : Ways → List Look → ℕ → List (List ℕ) → Bool
is_alive_from ways looks place [] = false
is_alive_from ways looks place (name ∷ names) =
    goes_on_at ways looks place name || is_alive_from ways looks (1 + place) names

-- whether a further look can give something
abbrev pub is_alive : Ways → List (List ℕ) → List Look → Bool
is_alive ways names looks = is_alive_from ways looks ways.first names
