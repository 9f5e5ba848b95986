-- How a run of following ends, by what its looks saw.
use Rattle.std.specs.{
  Prelude.{◌≡◌, ◌<◌, ◌≤◌, ◌+◌, ◌++◌, ◌∷◌, ℕ, zero, suc, Bool, true, false, IsTrue, List, [], length, take, Option},
  Prelude.{Some, None, if◌then◌else◌},
}
use Rattle.ports_core.specs.{
  Message.{SaysOn, TellsOn, output_reason},
  Slot.{Slot, with_broken},
  Text.{message_of, status_after},
  declared.{
    calling.Calling.{Calling, TheVariants.{Cutters, OwnName}},
    reason.Reason.{Reason, TheVariants.Gone},
    fault.Fault.{Fault, TheVariants.Memory},
  },
}
use Rattle.watch_core.specs.{Snapshot.{Snapshot, clinging, forgiving, insisting}, Watched.Watched}
use Rattle.follow_core.specs.{
  declared.{
    run.{Limits.Limits, Method.{Method, TheVariants.{Descriptor, Name, PresentName, FirstFile}}},
    start.Start.Start,
  },
  Followed.{Followed, made_from, messages_of, text_from},
  FollowState.{Asked, Halted, SawOrNot, is_alive},
  Look.{Look, Ways, snapshots, ways_of},
  Reading.AreFound,
  Share.Share,
  Sharing.Wrote,
  Standing.{AreWatched, NoneGoesOn},
  Telling.tail_by,
}

-- whether names are followed to where looks say that they lead; under `FirstFile` that is the name's first file
abbrev pub is_by_name : Method → Bool
is_by_name Descriptor = false
is_by_name Name = true
is_by_name PresentName = true
is_by_name FirstFile = true

-- a request to follow these names so, which are watched from number 0 on; `first` are the outputs before that
abbrev pub asked_so : Calling → Method → Start → (headers : Bool) → List (List ℕ) → (first : List Slot) → Asked
asked_so calling method start headers names first = record {
  calling = calling;
  ways = ways_of (is_by_name method) start 0;
  headers = headers;
  names = names;
  first = first;
}

-- What each look of a run shows. `Descriptor` is `-f`, and `Name` is `-F`. Only by its own name `tail` knows the
-- others: `PresentName` is `--follow=name` without `--retry`, and `FirstFile` is `-f --retry`. If `tail` was called by
-- its own name and goes on with names (`Name`), a name that can't be opened or read counts as missing, and a call can
-- fail only on a name that no file can have. If names are followed as long as they lead to a file (`PresentName`), a
-- call on a name that leads nowhere fails. If the first file of a name is followed (`FirstFile`), the name leads to
-- this file from then on, and a call on it can fail.
abbrev pub shows_by : Calling → Method → (ℕ → Snapshot) → ℕ → Snapshot
shows_by calling Descriptor shows = shows
shows_by Cutters Name shows = shows
shows_by OwnName Name shows = λ n. forgiving (shows n)
shows_by calling PresentName shows = λ n. insisting (shows n)
shows_by calling FirstFile shows = clinging shows

-- what the first n looks see
abbrev pub seen_first : (ℕ → Snapshot) → ℕ → List Snapshot
seen_first shows zero = []
seen_first shows (suc n) = seen_first shows n ++ shows n ∷ []

-- these looks were made in turn; if what they see is visible, more could come after each but the last
pub record Made (visible_in : Bool) (ways : Ways) (names : List (List ℕ)) (shows : ℕ → Snapshot)
    (looks : List Look) : Type 0 where
  pub saw : snapshots looks ≡ seen_first shows (length looks)
  pub alive : visible_in ≡ true → (n : ℕ) → 0 < n → n < length looks → is_alive ways names (take n looks) ≡ true

-- what a run of following leaves: what its looks saw, the watched names, and the outputs
pub record Remains : Type 0 where
  pub seen : List Snapshot
  pub watched : List Watched
  pub slots : List Slot

abbrev pub remains : List Snapshot → List Watched → List Slot → Remains
remains seen watched slots = record { seen = seen; watched = watched; slots = slots }

-- Some looks were made, the next look was stopped by a fault, and no other look was made.
pub record StoppedIn (visible_in visible : Bool) (asked : Asked) (count : ℕ) (shows : ℕ → Snapshot) (left : Remains)
    (why : Fault) : Type 0 where
  pub looks : List Look
  pub saw : SawOrNot (snapshots looks) (shows (length looks)) left.seen
  pub made : Made visible_in asked.ways asked.names shows looks
  pub within : length looks < count
  pub alive : visible_in ≡ true → 0 < length looks → is_alive asked.ways asked.names looks ≡ true
  pub halted : Halted visible_in visible asked looks (shows (length looks)) left.watched left.slots why

-- the outputs got all text and all messages, and the status is 1 if anything failed, and 0 otherwise
pub record LeavesFollowed (visible : Bool) (calling : Calling) (followed : Followed) (first new : List Slot)
    (status : ℕ) : Type 0 where
  pub wrote : Wrote visible calling followed.out followed.messages first new
  pub status_is : status ≡ (if followed.has_failed then 1 else 0)

-- whether it can be found before a look that sees this that the process is gone, if there is a process to ask for
abbrev pub is_over : (process : Option ℕ) → Snapshot → Bool
is_over None snapshot = false
is_over (Some process) snapshot = snapshot.lacks process

-- how many looks are made, from the look of number `from` on and at most `left`: the first look before which the
-- process is gone is the last
abbrev pub until_over : (process : Option ℕ) → (ℕ → Snapshot) → (from left : ℕ) → ℕ
until_over process shows from zero = 0
until_over process shows from (suc left) =
    if is_over process (shows from) then 1 else 1 + until_over process shows (from + 1) left

-- How many looks are made at most, of `count` that are asked for. If they are fewer, it was found before the last of
-- them that the process is gone. If what looks see is visible, that is the first look before which it is gone.
pub record AreMost (visible_in : Bool) (process : Option ℕ) (shows : ℕ → Snapshot) (count most : ℕ) : Type 0 where
  pub are : visible_in ≡ true → most ≡ until_over process shows 0 count
  pub within : most ≤ count
  pub found : most < count → (last : ℕ) × (most ≡ suc last) × IsTrue (is_over process (shows last))

-- A run ended in one of four ways. As many looks were made as were asked for, or fewer, after which nothing more can
-- come; the outputs have exactly what these looks give. Or a look was stopped; the outputs have all of the looks before
-- it, a beginning of this look, and a message, unless the reader of standard output is gone and `tail` was called by
-- its own name. Or `tail` was called by its own name, and before a look that could give something nobody read standard
-- output any more; it has exactly what the looks before give, and nothing is reported. Or there was no memory to begin;
-- that is reported, and no look was made.
pub data FollowEndsAs (visible_in visible : Bool) (asked : Asked) (count : ℕ) (shows : ℕ → Snapshot) (left : Remains)
    (status : ℕ) : Type 0 where
  looked : (looks : List Look) (shares : List Share) → left.seen ≡ snapshots looks
      → AreWatched asked.ways looks asked.names left.watched → Made visible_in asked.ways asked.names shows looks
      → length looks ≤ count → (length looks < count → (0 < length looks)
      × (visible_in ≡ true → is_alive asked.ways asked.names looks ≡ false) × NoneGoesOn asked.ways left.watched)
      → AreFound visible_in asked.ways asked.names looks shares
      → LeavesFollowed visible asked.calling (made_from asked.headers None shares) asked.first left.slots status
      → FollowEndsAs visible_in visible asked count shows left status
  stopped : (mid : List Slot) (fault : Fault)
      → StoppedIn visible_in visible asked count shows (record left { slots = mid }) fault
      → TellsOn visible (tail_by asked.calling) fault mid left.slots
      → status ≡ status_after fault asked.calling (output_reason mid fault)
      → FollowEndsAs visible_in visible asked count shows left status
  -- Before a look it was seen that nobody reads standard output any more. No further look was made.
  unread : (looks : List Look) (shares : List Share) (before : List Slot) → asked.calling ≡ OwnName
      → left.seen ≡ snapshots looks → AreWatched asked.ways looks asked.names left.watched
      → Made visible_in asked.ways asked.names shows looks → length looks < count
      → (visible_in ≡ true → 0 < length looks → is_alive asked.ways asked.names looks ≡ true)
      → AreFound visible_in asked.ways asked.names looks shares
      → Wrote visible asked.calling (text_from asked.headers None shares) (messages_of shares) asked.first before
      → left.slots ≡ with_broken Gone 0 before → status ≡ 141
      → FollowEndsAs visible_in visible asked count shows left status
  no_room : (why : Reason) → left.seen ≡ [] → left.watched ≡ []
      → SaysOn visible (tail_by asked.calling) why (message_of Memory []) asked.first left.slots → status ≡ 1
      → FollowEndsAs visible_in visible asked count shows left status

-- how a run ends by these limits
abbrev pub FollowEndsBy : Limits → (visible_in visible : Bool) → Asked → (ℕ → Snapshot) → Remains → (status : ℕ)
    → Type 0
FollowEndsBy limits visible_in visible asked shows left status = (most : ℕ)
    × AreMost visible_in limits.process shows limits.looks most
    × FollowEndsAs visible_in visible asked most shows left status
