-- What private calls say: the one stage of `head` and `tail`, as contracts see it.
use Rattle.std.specs.Prelude.{◌≡◌, ℕ, ◌+◌, ◌-◌, ◌^◌, max, nat_le, ◌==◌, ◌≤◌, ◌<◌, Bool, false, List, [], ◌++◌, drop}
use Rattle.std.specs.Prelude.{length, ◌⊎◌}
use Rattle.seg_core.specs.declared.unit.Unit.{Unit as Counted, TheVariants.{Lines, Bytes}}
use Rattle.ends_core.specs.{
  declared.{front.Front.Front, ends.Portion.{Portion, TheVariants.{First, ButLast, FromNth, Last, Between}}},
  Ends.{first_of, after_of, last_of, but_last_of, measure},
  Kept.{held_of, most_of, delim_of as kept_delim, unit_of as kept_unit},
  Shown.bytes_between,
  Stage.{stretch_of, unit_of, delim_of, count_of, waiting_of, may_lack, missing_of},
  inner.Kept.Stops,
}
use Rattle.ports_core.specs.{Slot.Slot, declared.{fault.Fault.Fault, verdict.Verdict.TheVariants.Changed}}
use Rattle.ports_core.specs.declared.fault.Fault.TheVariants as fault

-- if bytes are kept and as many wait as are to be kept, no memory can be lacking
abbrev pub FullLacksNone : Portion → Type 0
FullLacksNone ends = unit_of ends ≡ Bytes → count_of ends ≤ length (waiting_of ends) → may_lack ends ≡ false

-- what is written with a piece
abbrev pub due : Portion → List ℕ → List ℕ
due (First count front) piece = first_of front.delim front.unit front.left piece
due (ButLast kept) piece = but_last_of (kept_delim kept) (kept_unit kept) (most_of kept) (held_of kept ++ piece)
due (FromNth count front) piece = after_of front.delim front.unit front.left piece
due (Last kept) piece = []
due (Between span) piece = bytes_between (span.from - span.came) (span.end - span.came) piece

-- These bytes, if they are the first, write nothing. From number n on, or between two places, they stand before what is
-- written, and between two places they aren't all up to the end. Of any other stretch there are none.
abbrev pub WritesNothing : Portion → List ℕ → Type 0
WritesNothing (Between span) x = (length x ≤ span.from) × ((x ≡ []) ⊎ (length x < span.end))
WritesNothing (FromNth count front) x = after_of front.delim front.unit front.left x ≡ []
WritesNothing ends x = x ≡ []

-- the first lines or bytes once these bytes came in: fewer are still to come
abbrev pub front_after : Front → List ℕ → Front
front_after front x = record front { left = front.left - measure front.delim front.unit x }

-- the stage after these bytes, if they write nothing
abbrev pub passed : Portion → List ℕ → Portion
passed (FromNth count front) x = FromNth count (front_after front x)
passed (Between span) x = Between (record span { came = span.came + length x })
passed ends x = ends

-- what of a piece comes in after the last byte that is written
abbrev pub unused_of : Portion → List ℕ → List ℕ
unused_of (First count front) piece = after_of front.delim front.unit front.left piece
unused_of (Between span) piece = drop (span.end - span.came) piece
unused_of ends piece = []

-- how many bytes a piece may have if this many lines or bytes are still to come
abbrev pub piece_for : Counted → ℕ → ℕ
piece_for Lines left = max left 4096
piece_for Bytes left = left

-- how many bytes the next piece may have
abbrev pub wanted_by : Portion → ℕ
wanted_by (First count front) = piece_for front.unit front.left
wanted_by (Between span) = span.end - span.came
wanted_by ends = 2 ^ 64 - 1

-- what waits after a piece
abbrev pub left_waiting : Portion → List ℕ → List ℕ
left_waiting (ButLast kept) piece = last_of (kept_delim kept) (kept_unit kept) (most_of kept) (held_of kept ++ piece)
left_waiting (Last kept) piece = last_of (kept_delim kept) (kept_unit kept) (most_of kept) (held_of kept ++ piece)
left_waiting ends piece = []

-- what is written at the end
abbrev pub due_at_end : Portion → List ℕ
due_at_end (Last kept) = held_of kept
due_at_end ends = []

-- whether nothing more is to be written
abbrev pub is_full : Portion → Bool
is_full (First count front) = front.left == 0
is_full (Between span) = nat_le span.end span.came
is_full ends = false

-- both stages were asked for the same
pub record SameAsked (old new : Portion) : Type 0 where
  pub stretch : stretch_of new ≡ stretch_of old
  pub delim : delim_of new ≡ delim_of old
  pub unit : unit_of new ≡ unit_of old
  pub count : count_of new ≡ count_of old

-- Why the end stopped, and the outputs then: fewer bytes came than were shown, and the outputs stay; or the output
-- broke.
pub data EndsBadly (visible : Bool) (ends : Portion) (old new : List Slot) : Fault → Type 0 where
  changed : 0 < missing_of ends → new ≡ old → EndsBadly visible ends old new (fault.Verdict Changed)
  stopped : (fault : Fault) → Stops visible false (due_at_end ends) old new fault → EndsBadly visible ends old new fault
