-- What a look leaves at one name, at one name after another and at all names, and what all looks of a run do.
use Rattle.std.specs.{
  Prelude.{Bool, true, false, ◌||◌, List, [], ◌∷◌, ◌≡◌, ℕ, ◌++◌, Option, Some, None, length, Result, Ok, Err, ◌<◌},
  Prelude.{take, ◌≤◌, IfErr, IfOk, OnOk, ◌+◌, map, is_some},
}
use Rattle.follow_core.specs.{
  declared.{
    name.Standing.{Standing, TheVariants.{New, Followed, Left}},
    visitor.Stop.{Stop, TheVariants.{Broke, Over}},
    follow.Phase.TheVariants.{Fresh, Looking, Over},
    run.{End.{End, TheVariants.{Looked, Unread}}, Limits.Limits},
  },
  Standing.{NameState, NoneGoesOn, AllStand, CanVisit, Stands, StandsAmong, texts},
  Telling.{failure_message, tail_by},
  Share.{BeginsShare, Share, share_by},
  Look.{Look, Visit, Ways, is_dropped, snapshots, sound_visit, visit_at},
  Printing.PrinterState,
  Reading.{AreAtLook, IsBegun, IsGiven},
  inner.Giving.{IsFront, HasStopped, Moment, Shared, Sight},
  Followed.any_failed,
  FollowState.{AllReady, Asked, Begun, FollowState, Holds, IsCause, IsOther, LooksOn, Point, SawOrNot, StopsOn},
  FollowState.{is_alive, point},
  Sharing.{AllShared, AllShort, CanPrint, HasError},
  Ending.{AreMost, Made, StoppedIn, remains},
}
use Rattle.ports_core.specs.{
  Slot.{Slot, changed_at, with_broken},
  Message.SaysOn,
  declared.{calling.Calling.Calling, reason.Reason.{Reason, TheVariants.Gone}, fault.Fault.Fault},
}
use Rattle.watch_core.specs.{Snapshot.Snapshot, Watched.{Watched, opens, watched_at, added}}

-- whether a further look can give something of a name, by how the name stands
abbrev pub goes_on_as : (by_name : Bool) → Standing → Bool
goes_on_as by_name New = by_name
goes_on_as by_name (Followed position) = true
goes_on_as by_name Left = false

-- whether a further look can give something of one of these names
abbrev pub any_goes_on : (by_name : Bool) → List NameState → Bool
any_goes_on by_name [] = false
any_goes_on by_name (name ∷ names) = goes_on_as by_name name.standing || any_goes_on by_name names

-- the look at the name was stopped: the outputs have a beginning of what it gives
pub record Stopped (see : Sight) (ways : Ways) (before : List Look) (name : List ℕ) (old new : Moment) (why : Fault)
    : Type 0 where
  pub share : Share
  pub begins : see.visible_in ≡ true → (visits : List Visit)
      → BeginsShare share (share_by ways name before (record { snapshot = see.snapshot; visits = visits }) sound_visit)
  pub found : IsBegun see.visible_in ways before see.snapshot name share
  pub short : Shared see.visible share old.pen new.pen (Some why)

-- standard error got the message that a call on the name failed with this fault, and for this reason
abbrev pub SaysFailed : Bool → Calling → List ℕ → Reason → Fault → List Slot → List Slot → Type 0
SaysFailed visible calling name why fault = SaysOn visible (tail_by calling) why (failure_message fault name)

-- A call on the name failed: that is reported, as `Says` says, and the name is dropped. Or following ends: nothing more
-- is reported.
abbrev pub TellsStop : (Says : Fault → List Slot → List Slot → Type 0) → List Slot → Standing → List Slot → Stop
    → Result Bool Fault → Type 0
TellsStop Says old standing new (Broke why) result = (result ≡ Ok true) × (standing ≡ Left) × Says why old new
TellsStop Says old standing new (Over why) result = (result ≡ Err why) × (new ≡ old)

-- the open file of the name at this place may be another, and nothing else changed
abbrev pub Opened : ℕ → List Watched → List Watched → Type 0
Opened place old new = (file : Option ℕ) × (new ≡ changed_at place (opens file) old)

-- no name but the one at this place was changed
pub record KeepsOthers (place : ℕ) (old new : List Watched) : Type 0 where
  pub count : length new ≡ length old
  pub others : (other : ℕ) → (other ≡ place → ⊥) → watched_at new other ≡ watched_at old other

-- The outputs have what the look gives for the name of this number by its visit, and the name stands as after that look.
pub record Visited (see : Sight) (ways : Ways) (looks : List Look) (place : ℕ) (now : NameState) (old new : Moment)
    (failed : Bool) : Type 0 where
  pub visit : Visit
  pub share : Share
  pub found : (visits : List Visit) → visit_at place (record { snapshot = see.snapshot; visits = visits }) ≡ visit
      → IsGiven see.visible_in ways looks (record { snapshot = see.snapshot; visits = visits }) place now.text share
  pub is_failed : is_some share.failure ≡ failed
  pub shared : Shared see.visible share old.pen new.pen None
  pub stands : (visits : List Visit) → visit_at place (record { snapshot = see.snapshot; visits = visits }) ≡ visit
      → Stands see.visible_in ways (looks ++ record { snapshot = see.snapshot; visits = visits } ∷ []) place now.text
      (watched_at new.watched place) now.standing

-- the name stands so before a look, after these looks
abbrev pub StandsBefore : Sight → Ways → List Look → ℕ → NameState → Moment → Type 0
StandsBefore see ways looks place one old =
    Stands see.visible_in ways looks place one.text (watched_at old.watched place) one.standing

-- What a look leaves at one name, by how the name stood, whatever looks were made before. The outputs have what the
-- look gives for the name; or the look was stopped. If it wasn't, the name can be looked at again, or is looked at no
-- more.
pub record VisitsBy (see : Sight) (ways : Ways) (place : ℕ) (one : NameState) (old : Moment) (standing : Standing)
    (new : Moment) (result : Result Bool Fault) : Type 0 where
  pub visited : IfOk result (λ failed. (looks : List Look) → StandsBefore see ways looks place one old
      → Visited see ways looks place (record one { standing = standing }) old new failed)
  pub stopped : IfErr result (λ why. (looks : List Look) → StandsBefore see ways looks place one old
      → (is_dropped place looks ≡ false) × Stopped see ways looks one.text old new why)
  pub ready : OnOk result (CanVisit (record one { standing = standing }) (watched_at new.watched place))
  pub others : OnOk result (KeepsOthers place old.watched new.watched)
  pub halts : IfErr result (λ why. Opened place old.watched new.watched)

-- the same, whatever number the first name has
abbrev pub Visits : Sight → (ℕ → Ways) → (place : ℕ) → NameState → (old : Moment) → Standing → (new : Moment)
    → Result Bool Fault → Type 0
Visits see ways place one old standing new result =
    (first : ℕ) → VisitsBy see (ways first) place one old standing new result

-- The outputs have what the look gives for the names before this place, whatever visits the other names have. The names
-- before this place stand as after that look, and the others as before it.
pub record VisitedTo (see : Sight) (ways : Ways) (looks : List Look) (place : ℕ) (names : List NameState)
    (old new : Moment) (failed : Bool) : Type 0 where
  pub visits : List Visit
  pub shares : List Share
  pub count : length visits ≡ ways.first + place
  pub found : (all : List Visit) → IsFront visits all
      → AreAtLook see.visible_in ways looks (record { snapshot = see.snapshot; visits = all }) ways.first
      (take place (texts names)) shares
  pub is_failed : any_failed shares ≡ failed
  pub shared : AllShared see.visible old.pen.printer shares old.pen.slots new.pen.printer new.pen.slots
  pub done : (all : List Visit) → IsFront visits all → (other : ℕ) → other < place
      → StandsAmong see.visible_in ways
      (looks ++ record { snapshot = see.snapshot; visits = all } ∷ []) names new.watched
      other
  pub rest : (other : ℕ) → place ≤ other → other < length names
      → StandsAmong see.visible_in ways looks names new.watched other

-- the names stand as after these looks, and the first of them has this number
pub record StandFrom (visible_in : Bool) (ways : Ways) (looks : List Look) (first : ℕ) (names : List NameState)
    (watched : List Watched) : Type 0 where
  pub numbered : 0 < length names → first ≡ ways.first
  pub stand : AllStand visible_in ways looks names watched
  pub many : length watched ≡ ways.first + length names

-- What a look at all these names leaves, whatever looks were made before. The first name has this number.
pub record VisitsAll (see : Sight) (ways : ℕ → Ways) (first : ℕ) (names : List NameState) (old : Moment)
    (names_new : List NameState) (new : Moment) (result : Result Bool Fault) : Type 0 where
  pub same : OnOk result (texts names_new ≡ texts names)
  pub visited : IfOk result (λ failed. (from : ℕ) (looks : List Look)
      → StandFrom see.visible_in (ways from) looks first names old.watched
      → VisitedTo see (ways from) looks (length names) names_new old new failed)
  pub stopped : IfErr result (λ why. (from : ℕ) (looks : List Look)
      → StandFrom see.visible_in (ways from) looks first names old.watched → (whole part : List Share)
      × Begun see.visible_in (ways from) (texts names) looks see.snapshot new.watched whole part
      × (mid : PrinterState) × (reached : List Slot)
      × AllShared see.visible old.pen.printer whole old.pen.slots mid reached
      × AllShort see.visible mid part reached new.pen.slots why)
  pub ready : OnOk result (AllReady names_new first new.watched)
  pub count : length new.watched ≡ length old.watched
  pub others : (number : ℕ) → ((place : ℕ) → place < length names → number ≡ first + place → ⊥)
      → watched_at new.watched number ≡ watched_at old.watched number
  pub can : OnOk result (CanPrint new.pen.slots)
  pub error : IfErr result (λ why. HasStopped why new.pen.slots)

-- some of these names, from the first on, were added to the watched names
pub record AddsSome (names : List (List ℕ)) (old new : List Watched) : Type 0 where
  pub kept : IsFront old new
  pub front : IsFront new (old ++ map added names)

-- no look was made yet, or each name can be looked at; following isn't over
abbrev pub CanBegin : FollowState → List Watched → Type 0
CanBegin follow watched = elim follow.phase [
  | Fresh ↦ Unit {0}
  | Looking ↦ AllReady follow.names follow.first watched
  | Over ↦ ⊥
]

-- all names are watched, what was true after the looks before is still true, and the names of others are as they were
pub record BeginsLook (visible_in : Bool) (old : FollowState) (watched : List Watched) (new : FollowState)
    (watched_new : List Watched) : Type 0 where
  pub phase : new.phase ≡ Looking
  pub ready : AllReady new.names new.first watched_new
  pub others : (number : ℕ) → IsOther old watched number
      → IsOther new watched_new number × (watched_at watched_new number ≡ watched_at watched number)
  pub holds : (visible : Bool) (asked : Asked) (looks : List Look) (slots : List Slot)
      → Holds visible_in visible asked looks (point old watched slots)
      → Holds visible_in visible asked looks (point new watched_new slots)

-- one more look was made, which saw this, and `result` says whether it failed; or the look was stopped
pub record MakesLook (visible_in visible : Bool) (snapshot : Snapshot) (seen : List Snapshot) (old : Point)
    (seen_new : List Snapshot) (new : Point) (result : Result Bool Fault) : Type 0 where
  pub looked : IfOk result (λ failed. LooksOn visible_in visible snapshot old
      (record new { follow = record new.follow { has_failed = new.follow.has_failed || failed } }))
  pub stopped : IfErr result (StopsOn visible_in visible snapshot old new.watched new.slots)
  pub seen_is : OnOk result (seen_new ≡ seen ++ snapshot ∷ [])
  pub saw : IfErr result (λ why. SawOrNot seen snapshot seen_new)
  pub phase : OnOk result (new.follow.phase ≡ Looking)
  pub ready : OnOk result (AllReady new.follow.names new.follow.first new.watched)
  pub can : OnOk result (CanPrint new.slots)
  pub cause : IfErr result (IsCause old.follow old.slots new.slots)
  pub error : HasError new.slots
  pub others : (number : ℕ) → IsOther old.follow old.watched number
      → watched_at new.watched number ≡ watched_at old.watched number

-- As many looks were made as were asked for, or fewer, after which nothing more can come. The outputs have what these
-- looks give.
pub record LookedAll (visible_in visible : Bool) (asked : Asked) (count : ℕ) (shows : ℕ → Snapshot) (now : Point)
    (seen : List Snapshot) : Type 0 where
  pub looks : List Look
  pub observed : seen ≡ snapshots looks
  pub made : Made visible_in asked.ways asked.names shows looks
  pub within : length looks ≤ count
  pub over : length looks < count → (0 < length looks)
      × (visible_in ≡ true → is_alive asked.ways asked.names looks ≡ false) × NoneGoesOn asked.ways now.watched
  pub holds : Holds visible_in visible asked looks now

-- Fewer looks were made than were asked for, and a further look could give something. Then it was found that nobody
-- reads standard output any more, and nothing was written but what these looks give.
pub record FoundUnread (visible_in visible : Bool) (asked : Asked) (count : ℕ) (shows : ℕ → Snapshot) (now : Point)
    (seen : List Snapshot) : Type 0 where
  pub looks : List Look
  pub observed : seen ≡ snapshots looks
  pub made : Made visible_in asked.ways asked.names shows looks
  pub fewer : length looks < count
  pub alive : visible_in ≡ true → 0 < length looks → is_alive asked.ways asked.names looks ≡ true
  pub before : List Slot
  pub broke : now.slots ≡ with_broken Gone 0 before
  pub holds : Holds visible_in visible asked looks (record now { slots = before })

-- how looks in turn came to their end, by what they return
abbrev pub MadeLooks : (visible_in visible : Bool) → Asked → (count : ℕ) → (ℕ → Snapshot) → Point → List Snapshot
    → Result End Fault → Type 0
MadeLooks visible_in visible asked count shows now seen (Ok Looked) =
    LookedAll visible_in visible asked count shows now seen
MadeLooks visible_in visible asked count shows now seen (Ok Unread) =
    FoundUnread visible_in visible asked count shows now seen
MadeLooks visible_in visible asked count shows now seen (Err why) =
    StoppedIn visible_in visible asked count shows (remains seen now.watched now.slots) why

-- looks in turn were made up to these limits, and came to their end
abbrev pub LooksInTurn : (visible_in visible : Bool) → Limits → (ℕ → Snapshot) → (old new : Point) → List Snapshot
    → Result End Fault → Type 0
LooksInTurn visible_in visible limits shows old new seen result = (most : ℕ)
    × AreMost visible_in limits.process shows limits.looks most
    × ((asked : Asked) → Holds visible_in visible asked [] old
    → MadeLooks visible_in visible asked most shows new seen result)
