-- What a run of `tail` leaves that follows its files, by its words: POSIX.1-2017, XCU tail, `-f`; names that are
-- followed are GNU's.
use Rattle.std.specs.Prelude.{◌≡◌, ℕ, max, min, Bool, [], Option, Some, None, Result, Ok, Err, ◌⊎◌}
use Rattle.ports_core.specs.{
  Slot.{streams},
  declared.{calling.Calling.{Calling, TheVariants.{Cutters, OwnName}}, fault.{Fault.{Fault, TheVariants.Usage}, UsageKind.TheVariants.BadFollow}},
}
use Rattle.watch_core.specs.Snapshot.{waiting}
use Rattle.follow_core.specs.{
  declared.{run.Method.Method, start.Start.Start},
  Ending.{FollowEndsBy, asked_so, is_by_name, remains, shows_by},
}
use Rattle.words_core.specs.{
  declared.{
    settings.Settings.{Settings, TheVariants.Tail},
    tail_words.TailSettings.TailSettings,
    value.Followed.{Followed, TheVariants.{Descriptor, Name, PresentName, FirstFile}},
  },
  EndsWords.EndsAsked,
  TailWords.followed_by,
  Words.{HasOperands, settings_of},
}
use Rattle.follow_core.specs.declared.run.Method.TheVariants as method
use Rattle.tools_core.specs.{Outcome.{Refuses, RefusesOperands}, Run.{Run, Visible}}
use Rattle.words_core.specs.EndsWords.{has_headers, is_plus}

-- the part of a file that the first look writes
abbrev pub start_of : EndsAsked → Start
start_of asked = record {
  unit = asked.unit;
  from_nth = is_plus asked.count.sign;
  count = asked.count.amount;
  delim = asked.delim;
}

-- how they are followed, as that is asked for
abbrev pub method_of : Followed → Method
method_of Descriptor = method.Descriptor
method_of Name = method.Name
method_of PresentName = method.PresentName
method_of FirstFile = method.FirstFile

abbrev pub is_name : Followed → Bool
is_name followed = is_by_name (method_of followed)

-- past how many milliseconds the watch doesn't rest before a look, where this pause is asked for: by its own name `tail`
-- asks before each look whether its output is still read
abbrev pub pause_by : Calling → ℕ → ℕ
pause_by OwnName pause = min pause 500
pause_by Cutters pause = pause

-- These files are followed, in as many looks or until the process is gone that is asked for, and the run ended so that it
-- gave exactly what these looks give. If no change is seen, a look begins at most the pause of `pause_by` after the look
-- before it, or 1 ms if that is 0. Looks show names as `shows_by` says.
abbrev pub FollowsAs : Visible → Run → (looks : ℕ) → TailSettings → Followed → Type 0
FollowsAs visible run looks asked followed = let ends = asked.ends in
    FollowEndsBy (record { looks = looks; process = asked.process }) visible.watch visible.outputs
    (asked_so run.calling (method_of followed) (start_of ends) (has_headers ends.headers ends.names) ends.names streams)
    (λ n. waiting (max (pause_by run.calling asked.pause) 1)
    (shows_by run.calling (method_of followed) run.shows n)) (remains run.seen run.watched run.outputs) run.status

-- no name was watched and no look made
abbrev pub IsUnseen : Run → Type 0
IsUnseen run = (run.seen ≡ []) × (run.watched ≡ [])

-- what these settings ask to follow was followed; words that follow nothing were refused, and no look was made
abbrev pub FollowsTail : Visible → Run → (looks : ℕ) → TailSettings → Option Followed → Type 0
FollowsTail visible run looks asked (Some followed) = FollowsAs visible run looks asked followed
FollowsTail visible run looks asked None = IsUnseen run × Refuses visible run (Usage BadFollow 0)

-- what was asked for was followed; or the words were refused, since they follow nothing or operands can't be read
abbrev pub FollowingEndsAt : Visible → Run → (looks : ℕ) → Result Settings Fault → Type 0
FollowingEndsAt visible run looks (Ok (Tail asked)) =
    FollowsTail visible run looks asked (followed_by run.calling run.fed asked)
FollowingEndsAt visible run looks (Ok settings) = IsUnseen run
    × ((HasOperands settings × Refuses visible run (Usage BadFollow 0)) ⊎ RefusesOperands visible run settings)
FollowingEndsAt visible run looks (Err fault) = IsUnseen run × Refuses visible run fault

-- a run that would follow its files in as many looks ended so
abbrev pub FollowingEnds : Visible → Run → (looks : ℕ) → Type 0
FollowingEnds visible run looks = FollowingEndsAt visible run looks (settings_of run.calling run.words)
