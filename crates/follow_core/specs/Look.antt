-- The looks that were made, and how each name came through them.
use Rattle.std.specs.{
  Prelude.{is_some, ℕ, Bool, true, false, not, ◌&&◌, ◌||◌, List, [], ◌∷◌, Option, Some, None, map, slice_index_or},
  Prelude.option_map,
}
use Rattle.ends_core.specs.Ends.{tail_of}
use Rattle.ports_core.specs.declared.reason.Reason.{Reason, TheVariants.Other}
use Rattle.seg_core.specs.declared.unit.Unit.{Unit, TheVariants.{Lines, Bytes}}
use Rattle.watch_core.specs.{Snapshot.Snapshot, declared.watch.Broken.Broken}
use Rattle.follow_core.specs.{declared.start.Start.Start, Version.{Entry, entries_of}}
use Rattle.watch_core.specs.declared.watch.Broken.TheVariants as broken

-- how a name came through a look: no call on it failed, or which call failed first
pub data Fate : Type 0 where
  sound : Fate
  -- the call that asks where the name leads
  unled : Fate
  -- the call that opens the file to which the name leads
  unopened : Fate
  -- the call that asks how long this open file is
  unmeasured : Option ℕ → Fate
  -- a read of this file from a place on, by which the first look seeks where the part that it writes begins
  unsought : Option ℕ → ℕ → Fate
  -- a read of this file from a place on, whose bytes were to be written
  unread : Option ℕ → ℕ → Fate

-- the call of this fate that failed
abbrev pub broken_by : Fate → Option Broken
broken_by sound = None
broken_by unled = Some broken.Look
broken_by unopened = Some broken.Open
broken_by (unmeasured file) = Some (broken.Len file)
broken_by (unsought file from) = Some (broken.Read file from)
broken_by (unread file from) = Some (broken.Read file from)

-- how a look at one name ended
pub record Visit : Type 0 where
  pub fate : Fate
  -- if a call failed, or the name is missing at the first look, the system's reason for that
  pub why : Reason

abbrev pub sound_visit : Visit
sound_visit = record { fate = sound; why = Other }

pub record Look : Type 0 where
  pub snapshot : Snapshot
  -- the visit of each watched name, by its number; a name past the end of the list is sound, and a visit of others'
  -- names says nothing
  pub visits : List Visit

abbrev pub visit_at : ℕ → Look → Visit
visit_at place look = slice_index_or look.visits place sound_visit

abbrev pub fate_at : ℕ → Look → Fate
fate_at place look = (visit_at place look).fate

-- a call that failed, and why
pub record Failed : Type 0 where
  pub call : Broken
  pub why : Reason

-- this call failed for this reason, if there is a call
abbrev pub failed_for : Reason → Option Broken → Option Failed
failed_for why call = option_map (λ call. record { call = call; why = why }) call

-- how a name broke: as this visit says, or if its fate is sound as a later look says
abbrev pub failed_by : Visit → Option Failed → Option Failed
failed_by visit later = elim (failed_for visit.why (broken_by visit.fate)) [
  | None ↦ later
  | Some failed ↦ Some failed
]

-- the first call on the name of this number that failed in these looks; the name broke by it
abbrev pub failed_in : ℕ → List Look → Option Failed
failed_in place [] = None
failed_in place (look ∷ looks) = failed_by (visit_at place look) (failed_in place looks)

-- whether the name of this number broke at one of these looks; it is dropped from then on
abbrev pub is_dropped : ℕ → List Look → Bool
is_dropped place looks = is_some (failed_in place looks)

-- Whether a look can meet this fate. Only the first look seeks, and only if lines are counted. If names aren't
-- followed, only the first look opens a file, and no look asks where a name leads. The first look opens a file at once.
abbrev pub can_meet : (is_first by_name seeks : Bool) → Fate → Bool
can_meet is_first by_name seeks sound = true
can_meet is_first by_name seeks unled = not is_first && by_name
can_meet is_first by_name seeks unopened = is_first || by_name
can_meet is_first by_name seeks (unmeasured file) = true
can_meet is_first by_name seeks (unsought file from) = is_first && seeks
can_meet is_first by_name seeks (unread file from) = true

-- whether each of these looks can meet the fate that it has for the name of this number
abbrev pub are_met : (is_first by_name seeks : Bool) → ℕ → List Look → Bool
are_met is_first by_name seeks place [] = true
are_met is_first by_name seeks place (look ∷ looks) =
    can_meet is_first by_name seeks (fate_at place look) && are_met false by_name seeks place looks

abbrev pub snapshots : List Look → List Snapshot
snapshots looks = map (λ look. look.snapshot) looks

-- whether no look was made yet
abbrev pub is_first : List Look → Bool
is_first [] = true
is_first (look ∷ looks) = false

-- How the names are followed: they are watched one after another, from the number `first` on; they are followed by
-- name, or by the file that was opened; `start` is what is written of a file that the first look opens, and `seeks`
-- says whether reads seek where that begins.
pub record Ways : Type 0 where
  pub first : ℕ
  pub by_name : Bool
  pub start : List ℕ → List ℕ
  pub seeks : Bool

-- whether reads seek where the start part begins: for lines they do, and for bytes that place is known
abbrev pub is_sought : Unit → Bool
is_sought Lines = true
is_sought Bytes = false

-- the part of a text that the first look writes
abbrev pub start_part : Start → List ℕ → List ℕ
start_part start = tail_of start.delim start.unit start.from_nth start.count

-- how the names are followed, as it was asked for, if the first of them has this number
abbrev pub ways_of : Bool → Start → (first : ℕ) → Ways
ways_of by_name start first =
    record { first = first; by_name = by_name; start = start_part start; seeks = is_sought start.unit }

-- the entries of a name in these looks
abbrev pub entries_in : Ways → List ℕ → List Look → List Entry
entries_in ways name looks = entries_of ways.by_name name (snapshots looks)
