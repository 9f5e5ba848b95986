-- What contracts see of a watch over real files: how many looks began, and the names. What a look could see is not
-- told.
use Rattle.std.specs.Prelude.{ℕ, Bool, true, List, [], replicate}
use Rattle.watch_core.specs.{
  declared.dir_name.Manner.{Manner, TheVariants.{Plain, Forgiving, Clinging, Insisting}},
  Snapshot.{Snapshot, forgiving, insisting, no_files, waiting},
  Watched.Watched,
}

pub record DirWatchState : Type 0 where
  -- how many looks began
  pub turns : ℕ
  pub watched : List Watched
  -- what becomes of names that can't be read or lead nowhere
  pub manner : Manner
  -- within how many milliseconds a look begins where nothing is seen to change
  pub within : ℕ
  -- for how many milliseconds the last look was waited for, in pauses
  pub rested : ℕ
  -- standard input is a file that can be watched, as the system said when it was asked
  pub fed : Bool

-- a watch without a name, before the first look; `fed` says whether standard input is a file that can be watched
abbrev pub no_turns : (fed : Bool) → DirWatchState
no_turns fed = record { turns = 0; watched = []; manner = Plain; within = 1000; rested = 0; fed = fed }

-- a snapshot of which nothing is told: any call may find anything
abbrev pub any_files : Snapshot
any_files = record no_files { lacks = λ process. true }

-- where names lead isn't told, and of a name that is clung to any call can fail
abbrev pub any_by : Manner → Snapshot
any_by Plain = any_files
any_by Forgiving = forgiving any_files
any_by Clinging = any_files
any_by Insisting = insisting any_files

-- what every look sees
abbrev pub files_by : Manner → (within : ℕ) → Snapshot
files_by manner within = waiting within (any_by manner)

abbrev pub seen : DirWatchState → List Snapshot
seen watch = replicate watch.turns (files_by watch.manner watch.within)
