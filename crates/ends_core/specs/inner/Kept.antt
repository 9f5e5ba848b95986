-- What private calls say of what waits: how it is written, and how that stops.
use Rattle.std.specs.Prelude.{◌≡◌, ◌≤◌, false, length, ℕ, Bool, true, List, Result, OnOk, IfErr}
use Rattle.ends_core.specs.{declared.kept.Kept.Kept, Kept.{unit_of, delim_of, most_of, held_of, may_lack_of}}
use Rattle.ports_core.specs.{Slot.{Slot, with_written, visible_of}, Write.BrokeAfter, declared.fault.Fault.Fault}
use Rattle.seg_core.specs.declared.unit.Unit.TheVariants as unit
use Rattle.ports_core.specs.declared.fault.Fault.TheVariants as fault

-- if a store keeps bytes and is full, no memory can be lacking
abbrev pub FullLacksNone : Kept → Type 0
FullLacksNone kept = unit_of kept ≡ unit.Bytes → most_of kept ≤ length (held_of kept) → may_lack_of kept ≡ false

-- both stores count the same, have the same delimiter and keep as many
pub record SameKept (old new : Kept) : Type 0 where
  pub unit : unit_of new ≡ unit_of old
  pub delim : delim_of new ≡ delim_of old
  pub most : most_of new ≡ most_of old

-- the output broke among the bytes; or they were written, and there was no memory for what has to wait, if it may lack
pub data Stops (visible lacks : Bool) (bytes : List ℕ) (old new : List Slot) : Fault → Type 0 where
  broke : (n : ℕ) → BrokeAfter visible old new 0 bytes n → Stops visible lacks bytes old new (fault.Write 0)
  no_room : lacks ≡ true → new ≡ with_written 0 (visible_of visible bytes) old
      → Stops visible lacks bytes old new fault.Memory

-- the bytes were written, or a fault stopped that
pub record Writes (visible lacks : Bool) (bytes : List ℕ) (old new : List Slot)
    (result : Result (Unit {0}) Fault) : Type 0 where
  pub out : OnOk result (new ≡ with_written 0 (visible_of visible bytes) old)
  pub cut : IfErr result (Stops visible lacks bytes old new)
