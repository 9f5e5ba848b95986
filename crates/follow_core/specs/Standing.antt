-- How a name stands between two looks.
use Rattle.std.specs.{
  Prelude.{◌≡◌, ◌<◌, ◌≤◌, ◌+◌, ℕ, Bool, true, false, List, [], Option, None, ◌⊎◌, length, map, slice_index_or},
  Prelude.is_some,
}
use Rattle.watch_core.specs.{Snapshot.{latest}, Watched.{Watched, added, watched_at}}
use Rattle.follow_core.specs.{
  declared.name.Standing.{Standing, TheVariants.{New, Followed, Left}},
  Look.{Failed, Look, Ways, are_met, failed_for, failed_in, is_dropped, is_first, snapshots},
  Reading.IsLong,
  Share.opened_in,
  Version.open_after,
}

pub record NameState : Type 0 where
  pub text : List ℕ
  pub standing : Standing

-- what stands at a place without a name
abbrev pub no_state : NameState
no_state = record { text = []; standing = Left }

abbrev pub state_at : List NameState → ℕ → NameState
state_at names place = slice_index_or names place no_state

abbrev pub texts : List NameState → List (List ℕ)
texts names = map (λ name. name.text) names

-- the name can be looked at, or is looked at no more
abbrev pub CanVisit : NameState → Watched → Type 0
CanVisit name watched = elim name.standing [
  | New ↦ (watched.name ≡ name.text) × (watched.failed ≡ None)
  | Followed position ↦ (watched.name ≡ name.text) × (watched.failed ≡ None)
  | Left ↦ Unit {0}
]

-- the call by which a watched name broke, and why
abbrev pub failed_of : Watched → Option Failed
failed_of watched = failed_for watched.reason watched.failed

-- The name of this number broke exactly if these looks say so, and for the reason that they say. Each look can meet the
-- fate that it has for the name.
pub record BrokeIn (ways : Ways) (looks : List Look) (place : ℕ) (failed : Option Failed) : Type 0 where
  pub call : failed ≡ failed_in place looks
  pub met : are_met true ways.by_name ways.seeks place looks ≡ true

-- This name is watched at this number. It broke exactly if these looks say so, and no file of a broken name is open.
pub record IsWatched (ways : Ways) (looks : List Look) (place : ℕ) (name : List ℕ) (watched : Watched) : Type 0 where
  pub named : watched.name ≡ name
  pub broke : BrokeIn ways looks place (failed_of watched)
  pub closed : is_some watched.failed ≡ true → watched.opened ≡ None

-- The last of the watched names are these names, from the number `first` on. Once a look was made, all of them are
-- watched. Before that some or all of them may be missing at the end. Each is watched by its own name.
abbrev pub AreWatched : Ways → List Look → List (List ℕ) → List Watched → Type 0
AreWatched ways looks names watched = (length watched ≤ ways.first + length names)
    × (0 < length looks → length watched ≡ ways.first + length names)
    × ((place : ℕ) → ways.first + place < length watched → IsWatched ways looks (ways.first + place)
    (slice_index_or names place []) (watched_at watched (ways.first + place)))

-- The name is looked at again. The file is open that the looks left open, and `position` bytes of it were seen.
pub record IsFollowed (visible : Bool) (ways : Ways) (looks : List Look) (place : ℕ) (name : List ℕ) (watched : Watched)
    (position : ℕ) : Type 0 where
  pub named : watched.name ≡ name
  pub unbroken : watched.failed ≡ None
  pub kept : is_dropped place looks ≡ false
  pub begun : is_first looks ≡ false
  pub stands : visible ≡ true → watched.opened ≡ opened_in ways name looks
  pub there : visible ≡ true → ways.by_name ≡ false → is_some watched.opened ≡ true
  pub long : IsLong visible ways.by_name (latest (snapshots looks)) name watched.opened position

-- the name was missing at the first look, and names aren't followed
pub record IsMissed (visible : Bool) (ways : Ways) (looks : List Look) (place : ℕ) (name : List ℕ)
    (watched : Watched) : Type 0 where
  pub way : ways.by_name ≡ false
  pub unbroken : watched.failed ≡ None
  pub kept : is_dropped place looks ≡ false
  pub closed : watched.opened ≡ None
  pub unopened : visible ≡ true → open_after ways.by_name name (snapshots looks) ≡ None

-- The name is looked at no more: a call on it failed, so it is broken, or it was missing at the first look.
pub record IsLeft (visible : Bool) (ways : Ways) (looks : List Look) (place : ℕ) (name : List ℕ)
    (watched : Watched) : Type 0 where
  pub begun : is_first looks ≡ false
  pub named : watched.name ≡ name
  pub why : ((is_dropped place looks ≡ true) × BrokeIn ways looks place (failed_of watched) × (watched.opened ≡ None))
      ⊎ IsMissed visible ways looks place name watched

abbrev pub Stands : Bool → Ways → List Look → ℕ → List ℕ → Watched → Standing → Type 0
Stands visible ways looks place name watched New = (looks ≡ []) × (watched ≡ added name)
Stands visible ways looks place name watched (Followed position) =
    IsFollowed visible ways looks place name watched position
Stands visible ways looks place name watched Left = IsLeft visible ways looks place name watched

-- no name that is watched from the number `first` on goes on: each broke, or has no open file and names aren't followed
abbrev pub NoneGoesOn : Ways → List Watched → Type 0
NoneGoesOn ways watched = (place : ℕ) → ways.first + place < length watched
    → (is_some (watched_at watched (ways.first + place)).failed ≡ true)
    ⊎ ((ways.by_name ≡ false) × ((watched_at watched (ways.first + place)).opened ≡ None))

-- the name at this place stands as after these looks
abbrev pub StandsAmong : Bool → Ways → List Look → List NameState → List Watched → ℕ → Type 0
StandsAmong visible ways looks names watched place = Stands visible ways looks (ways.first + place)
    (state_at names place).text (watched_at watched (ways.first + place)) (state_at names place).standing

-- each name stands as after these looks
abbrev pub AllStand : Bool → Ways → List Look → List NameState → List Watched → Type 0
AllStand visible ways looks names watched = (place : ℕ) → place < length names
    → StandsAmong visible ways looks names watched place
