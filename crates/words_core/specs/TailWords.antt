-- What options and operands ask of `tail`, or what is wrong with them.
use Rattle.std.specs.{
  Prelude.{ℕ, ◌-◌, ◌^◌, Bool, true, false, List, ◌∷◌, codes, Option, Some, None, Result, Ok, Err, if◌then◌else◌},
  Prelude.bytes_eq,
  List.list_any,
}
use Rattle.ports_core.specs.declared.{
  calling.Calling.{Calling, TheVariants.{Cutters, OwnName}},
  fault.{Fault.{Fault, TheVariants.Usage}, UsageKind.TheVariants.BadFollow},
}
use Rattle.words_core.specs.{
  declared.choice.Choice.{Choice, TheVariants.{Follow, FollowNames, Retry, Looks, Pause, Process}},
  declared.spelled.Chosen.Chosen,
  declared.value.Followed.{Followed, TheVariants.{Descriptor, Name, PresentName, FirstFile}},
  declared.tail_words.TailSettings.TailSettings,
  EndsWords.{EndsAsked, ends_by, names_asked, ten_lines},
  Given.{asked_by, Given},
  Value.then_check,
}

-- without options nothing is followed, and a pause lasts a second at most
abbrev pub unfollowed : EndsAsked → TailSettings
unfollowed ends = record { ends = ends; followed = None; looks = 2 ^ 63 - 1; pause = 1000; process = None }

-- With one more option: the last that says what is followed decides, and so do the last number of looks, the last
-- pause and the last process; what is written of each input at first is what `head` is asked for.

abbrev pub tail_by : TailSettings → Choice → TailSettings
tail_by asked (Follow followed) = record asked { followed = Some followed }
tail_by asked FollowNames = record asked { followed = Some Name }
tail_by asked (Looks looks) = record asked { looks = looks }
tail_by asked (Pause pause) = record asked { pause = pause }
tail_by asked (Process process) = record asked { process = Some process }
tail_by asked choice = record asked { ends = ends_by asked.ends choice }

-- whether a name that leads nowhere is looked for again, with one more option

abbrev pub retry_by : Bool → Choice → Bool
retry_by retry FollowNames = true
retry_by retry Retry = true
retry_by retry choice = retry

-- whether standard input is among the inputs
abbrev pub has_dash : List (List ℕ) → Bool
has_dash names = list_any (λ name. bytes_eq name (codes "-")) names

abbrev pub bad_follow : {A : Type 0} → Result A Fault
bad_follow = Err (Usage BadFollow 0)

-- Files may be followed, but by `cutters` not if standard input is one of several. Names may be if standard input, which
-- has none, isn't among them.

abbrev pub by_file : List (List ℕ) → Calling → Result (Option Followed) Fault
by_file (name ∷ next ∷ names) Cutters = if has_dash (name ∷ next ∷ names) then bad_follow else Ok (Some Descriptor)
by_file names calling = Ok (Some Descriptor)

abbrev pub by_name : Followed → List (List ℕ) → Result (Option Followed) Fault
by_name how names = if has_dash names then bad_follow else Ok (Some how)

-- By `cutters` names are followed just where one that leads nowhere is looked for again. By its own name `tail` drops
-- such a name where it isn't looked for; a file that is followed may be looked for too, until it is there; and looking
-- has no effect where nothing is followed.
abbrev pub followed_in : Option Followed → (retry : Bool) → Calling → List (List ℕ) → Result (Option Followed) Fault
followed_in None false calling names = Ok None
followed_in None true OwnName names = Ok None
followed_in (Some Descriptor) false calling names = by_file names calling
followed_in (Some Descriptor) true OwnName names = Ok (Some FirstFile)
followed_in (Some Name) true calling names = by_name Name names
followed_in (Some Name) false OwnName names = by_name PresentName names
followed_in followed retry calling names = bad_follow

-- what options ask, of these inputs
abbrev pub tail_of : List (List ℕ) → List Chosen → TailSettings
tail_of names options = asked_by tail_by (unfollowed (ten_lines names)) options

abbrev pub tail_asked : Calling → Given → Result TailSettings Fault
tail_asked calling given =
    let asked = tail_of (names_asked given.operands) given.options in
    then_check
    (followed_in asked.followed (asked_by retry_by false given.options) calling asked.ends.names)
    (λ followed. Ok (record asked { followed = followed }))

-- How inputs are followed. If standard input is among them, they are followed only by the tool's own name, and where
-- standard input is a file that can be watched.
abbrev pub followed_by : Calling → (fed : Bool) → TailSettings → Option Followed
followed_by OwnName true asked = asked.followed
followed_by calling fed asked = if has_dash asked.ends.names then None else asked.followed
