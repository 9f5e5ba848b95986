-- Names that are drawn one after another, and the files with them.
use Rattle.std.specs.Prelude.{◌≡◌, ℕ, ◌+◌, ◌<◌, ◌^◌, List, [], ◌∷◌, ◌++◌, ◌⊎◌, length, Bool, false, IsTrue}
use Rattle.ports_core.specs.{
  declared.fault.Fault.{Fault, TheVariants.{Memory, Write, Open, Verdict}},
  declared.verdict.Verdict.TheVariants.Suffixes,
  declared.reason.Reason.Reason,
  Name.{name_at, has_name},
  Slot.{Slot, is_writable, visible_of, unopened, with_written},
  Write.BrokeAfter,
}
use Rattle.engine_core.specs.{
  declared.names.Names.Names,
  declared.file_writer.Tells.{Tells, TheVariants.{Nothing, Sizes, Openings}},
  Draft.{output_of, told_before},
}

-- the next name; `has_next` says whether there is one
abbrev pub next_name : Names → List ℕ
next_name names = name_at names.naming names.drawn

abbrev pub has_next : Names → Bool
has_next names = has_name names.naming names.drawn

abbrev pub with_one_drawn : Names → Names
with_one_drawn names = record names { drawn = names.drawn + 1 }

-- standard output can be written, if it gets lines about files
abbrev pub CanTell : Tells → List Slot → Type 0
CanTell Nothing slots = Unit {0}
CanTell Sizes slots = IsTrue (is_writable slots 0)
CanTell Openings slots = IsTrue (is_writable slots 0)

-- the line that standard output gets about the next file, before this file is opened
abbrev pub line_next : Tells → Names → List ℕ
line_next tells names = told_before (output_of tells) (next_name names)

-- the outputs once standard output got the line about the next file
abbrev pub told_next : Bool → Tells → Names → List Slot → List Slot
told_next visible tells names slots = with_written 0 (visible_of visible (line_next tells names)) slots

-- Why no file with the next name was opened: there was no memory; standard output broke in the line about the file;
-- after this line the file can't be opened, or no number is left for it; or no name is left. 64 bits count the names
-- that were drawn.
pub data OpensNone (visible : Bool) (tells : Tells) (names next : Names) (old new : List Slot) : Fault → Type 0 where
  no_memory : new ≡ old → OpensNone visible tells names next old new Memory
  no_line : (n : ℕ) → names.drawn < 2 ^ 64 → IsTrue (has_next names)
      → BrokeAfter visible old new 0 (line_next tells names) n → OpensNone visible tells names next old new (Write 0)
  no_file : (slot : ℕ) (kept : List ℕ) (why : Reason) → slot ≡ length old → names.drawn < 2 ^ 64
      → IsTrue (has_next names) → next ≡ with_one_drawn names → (kept ≡ next_name names) ⊎ (kept ≡ [])
      → new ≡ told_next visible tells names old ++ unopened why kept ∷ []
      → OpensNone visible tells names next old new (Open slot)
  no_number : names.drawn < 2 ^ 64 → IsTrue (has_next names) → new ≡ told_next visible tells names old
      → OpensNone visible tells names next old new Memory
  no_name : names.drawn < 2 ^ 64 → has_next names ≡ false → new ≡ old
      → OpensNone visible tells names next old new (Verdict Suffixes)
