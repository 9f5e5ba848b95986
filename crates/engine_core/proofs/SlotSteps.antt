-- Slots as they are opened, written and closed, and as they break.
use Rattle.std.proofs.{
  lemmas.Grind.common_steps,
  Common.{◌≡◌, ℕ, ◌<◌, ◌≤◌, zero, suc, List, [], ◌∷◌, ◌++◌, length, Bool, true, false, IsTrue, refl, ◌∙◌, ap},
  Common.{arith, rules},
}
use Rattle.ports_core.specs.{
  Slot.{SlotBreaks, Slot, Rose, has_file, slot_at, changed_at, opened, unopened, closes, with_written, with_broken},
  Slot.{is_writable, KeepsBroken},
  Write.BrokeAfter,
  declared.{fault.Fault.Fault, reason.Reason.Reason, slot.Mode.Mode},
}
use Rattle.engine_core.specs.{Swept.{Swept, none}, inner.Write.{WritesShort, broke}}
use Rattle.engine_core.proofs.WrittenLemmas.{sound_at, broken_at}
use Rattle.ports_core.proofs.{SlotLemmas.{length-changed_at, slot_at-elsewhere}, WriteLemmas.writable-written}

-- Outputs that were broken stay broken.

flag_stays : (change : Slot → Slot) → ((slot : Slot) → (change slot).is_broken ≡ slot.is_broken)
    → (place other : ℕ) (slots : List Slot)
    → (slot_at (changed_at place change slots) other).is_broken ≡ (slot_at slots other).is_broken
flag_stays change same place other [] = refl
flag_stays change same zero zero (slot ∷ slots) = same slot
flag_stays change same (suc place) (suc other) (slot ∷ slots) = flag_stays _ same _ _ slots
flag_stays change same place other slots = refl

pub keeps_again : (old mid new : List Slot) → KeepsBroken old mid → KeepsBroken mid new → KeepsBroken old new
keeps_again old mid new first second place sound = search rules

pub keeps_write : (slot : ℕ) (bytes : List ℕ) (old new : List Slot) → new ≡ with_written slot bytes old
    → KeepsBroken old new
keeps_write slot bytes old new is = grind (arith, flag_stays)

pub keeps_close : (slot : ℕ) (old new : List Slot) → new ≡ changed_at slot closes old → KeepsBroken old new
keeps_close slot old new is = grind (arith, flag_stays)

pub keeps_open : (one : Slot) (old new : List Slot) → new ≡ old ++ one ∷ [] → KeepsBroken old new
keeps_open one old new is place sound = grind (arith, common_steps)

-- An output that breaks was sound.

pub broken_there : (why : Reason) (place : ℕ) (slots : List Slot) → place < length slots
    → (slot_at (with_broken why place slots) place).is_broken ≡ true
broken_there why place [] within = absurd (omega arith)
broken_there why zero (slot ∷ slots) within = refl
broken_there why (suc place) (slot ∷ slots) within = broken_there _ _ slots (omega arith)

pub rose_later : (slot : ℕ) (old mid new : List Slot) → KeepsBroken old mid → Rose slot mid new → Rose slot old new
rose_later slot old mid new keeps rose = search rules

pub write_rose : (visible : Bool) (slot : ℕ) (bytes : List ℕ) (n : ℕ) (old new : List Slot)
    → IsTrue (is_writable old slot)
    → BrokeAfter visible old new slot bytes n → Rose slot old new
write_rose visible slot bytes n old new can cut = grind (arith, sound_at, broken_at, writable-written)

pub close_rose : (slot : ℕ) (old new : List Slot) → IsTrue (is_writable old slot) → slot < length old
    → SlotBreaks slot (changed_at slot closes old) new → Rose slot old new
close_rose slot old new can within (why, is) = grind (arith, sound_at, broken_there, length-changed_at)

-- How many slots there are

pub written_size : (slot : ℕ) (bytes : List ℕ) (old new : List Slot) → new ≡ with_written slot bytes old
    → length new ≡ length old
written_size slot bytes old new is = ap length is ∙ length-changed_at _ _ _

pub short_size : (visible : Bool) (slot : ℕ) (bytes : List ℕ) (old new : List Slot) (f : Fault)
    → WritesShort visible slot bytes old new f → length new ≡ length old
short_size visible slot bytes old new _ (broke n cut) = grind (arith, length-changed_at)

pub broken_size : (slot : ℕ) (old new : List Slot) → SlotBreaks slot (changed_at slot closes old) new
    → length new ≡ length old
broken_size slot old new (why, is) = grind (arith, length-changed_at)

-- Which slots can be written

pub writable_within : (place : ℕ) (slots : List Slot) → IsTrue (is_writable slots place) → place < length slots
writable_within place [] can = search rules
writable_within zero (slot ∷ slots) can = omega arith
writable_within (suc place) (slot ∷ slots) can = grind (arith, common_steps)

pub opened_writable : (old new : List Slot) (slot : ℕ) (name : List ℕ) (mode : Mode) → slot ≡ length old
    → new ≡ old ++ opened name mode ∷ [] → IsTrue (is_writable new slot)
opened_writable old new slot name mode at is = grind (arith, common_steps)

pub writable_before : (old new : List Slot) (place : ℕ) (one : Slot) → place < length old → new ≡ old ++ one ∷ []
    → IsTrue (is_writable old place) → IsTrue (is_writable new place)
writable_before old new place one within is can = grind (arith, common_steps)

pub written_writable : (old new : List Slot) (slot place : ℕ) (bytes : List ℕ) → IsTrue (is_writable old slot)
    → new ≡ with_written place bytes old → IsTrue (is_writable new slot)
written_writable old new slot place bytes can is = grind (arith, writable-written)

pub writable_elsewhere : (old new : List Slot) (slot place : ℕ) (change : Slot → Slot) → (slot ≡ place → ⊥)
    → new ≡ changed_at place change old → IsTrue (is_writable old slot) → IsTrue (is_writable new slot)
writable_elsewhere old new slot place change differs is can = grind (arith, slot_at-elsewhere)

-- Which slots have a file

pub none_past : (slots : List Slot) (place : ℕ) → length slots ≤ place → has_file (slot_at slots place).state ≡ false
none_past slots place past = grind (arith, common_steps)

-- if there is no file, no file is removed
pub swept_none : (clears : Bool) (first : ℕ) (slots : List Slot)
    → ((place : ℕ) → first ≤ place → has_file (slot_at slots place).state ≡ false) → Swept clears first slots slots
swept_none true first slots no_file = grind (arith, none)
swept_none false first slots no_file = refl

-- there are as many outputs as before, and each has a file exactly if it had one
pub record KeepsMade (old new : List Slot) : Type 0 where
  pub size : length new ≡ length old
  pub same : (place : ℕ) → has_file (slot_at new place).state ≡ has_file (slot_at old place).state

pub made_again : (old mid new : List Slot) → KeepsMade old mid → KeepsMade mid new → KeepsMade old new
made_again old mid new first second = search rules

file_stays : (change : Slot → Slot) (place other : ℕ) (slots : List Slot)
    → has_file (change (slot_at slots place)).state ≡ has_file (slot_at slots place).state
    → has_file (slot_at (changed_at place change slots) other).state ≡ has_file (slot_at slots other).state
file_stays change place other [] same = refl
file_stays change zero zero (slot ∷ slots) same = same
file_stays change (suc place) (suc other) (slot ∷ slots) same = file_stays _ _ _ slots same
file_stays change place other slots same = refl

pub made_write : (slot : ℕ) (bytes : List ℕ) (old new : List Slot) → new ≡ with_written slot bytes old
    → KeepsMade old new
made_write slot bytes old new is = grind (arith, length-changed_at, file_stays)

pub made_break : (slot : ℕ) (old new : List Slot) → SlotBreaks slot old new → KeepsMade old new
made_break slot old new (why, is) = grind (arith, length-changed_at, file_stays)

pub made_short : (visible : Bool) (slot : ℕ) (bytes : List ℕ) (old new : List Slot) (f : Fault)
    → WritesShort visible slot bytes old new f → KeepsMade old new
made_short visible slot bytes old new _ (broke n cut) = made_again _ _ _ (made_write _ _ _ _ refl) (made_break _ _ _ cut.slots)

pub made_close : (slot : ℕ) (old new : List Slot) → IsTrue (is_writable old slot) → new ≡ changed_at slot closes old
    → KeepsMade old new
made_close slot old new can is = grind (arith, length-changed_at, file_stays)

-- exactly the same outputs have a file, and there are no fewer outputs
pub record KeepsFiled (old new : List Slot) : Type 0 where
  pub same : (place : ℕ) → has_file (slot_at new place).state ≡ has_file (slot_at old place).state
  pub within : length old ≤ length new

pub filed_same : {old new : List Slot} → KeepsMade old new → KeepsFiled old new
filed_same made = search rules

pub filed_more : {old mid new : List Slot} (why : Reason) (kept : List ℕ) → KeepsMade old mid
    → new ≡ mid ++ unopened why kept ∷ [] → KeepsFiled old new
filed_more {mid = mid} why kept made added = grind (arith, common_steps) where
  still : (place : ℕ) → has_file (slot_at (mid ++ unopened why kept ∷ []) place).state
      ≡ has_file (slot_at mid place).state
  still place = grind (arith, common_steps)
