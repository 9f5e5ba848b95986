-- What contracts see of the writer of files, and what its calls do.
use Rattle.std.specs.{
  Prelude.{◌≡◌, ℕ, ◌+◌, ◌<◌, ◌≤◌, ◌^◌, suc, Bool, true, false, List, [], ◌∷◌, length, Option, Some, None, IfNone},
  Prelude.{IfSome, IsTrue},
}
use Rattle.engine_core.specs.{
  Draft.{Manner, Draft, AreNamed, output_of, made_of, shares_of, draft_part, manner_by},
  Written.{Written, Output, OutputsAt, writes},
  Swept.{AreThere, is_among},
  InTurn.IsThere,
  declared.file_writer.Current.{Current, TheVariants.{Skipped, Due, File, Unopened}},
  declared.file_writer.FileWriter.FileWriter,
  declared.file_writer.Keeps.{Keeps, TheVariants.{All, Open as OpenOne}},
  declared.file_writer.Opening.{Opening, TheVariants.{Never, Late}},
  declared.file_writer.Tells.{Tells, TheVariants.{Nothing, Sizes, Openings}},
  declared.names.Names.Names,
}
use Rattle.ports_core.specs.{
  Name.Naming,
  Slot.{Effect, Slot, Rose, KeepsBroken, has_file, is_writable, slot_at},
  declared.fault.Fault.Fault,
  declared.verdict.Verdict.TheVariants.Suffixes,
}
pub use Rattle.engine_core.specs.Names.{CanTell}
use Rattle.ports_core.specs.declared.fault.Fault.TheVariants as why

pub record WriterState : Type 0 where
  -- the names of the writer's files, and how many names were drawn
  pub names : Names
  pub tells : Tells
  pub keeps : Keeps
  -- the outputs of the files that were made and not removed, in order, if all are kept; otherwise none
  pub files : List ℕ
  -- where bytes go
  pub current : Current

-- what contracts see of a writer of files
abbrev pub seen_writer : FileWriter → WriterState
seen_writer writer = record {
  names = writer.names;
  tells = writer.tells;
  keeps = writer.keeps;
  files = writer.files.items;
  current = writer.current;
}

-- how the writer makes files
abbrev pub manner_in : WriterState → Manner
manner_in writer = manner_by writer.names.naming (output_of writer.tells)

-- whether a file is open
abbrev pub is_file : Current → Bool
is_file Skipped = false
is_file Due = false
is_file (File slot size) = true
is_file Unopened = false

-- how many bytes of the open file are counted; all of them, if sizes are written
abbrev pub size_of : Current → ℕ
size_of Skipped = 0
size_of Due = 0
size_of (File slot size) = size
size_of Unopened = 0

-- if sizes are written, the count of these bytes is right
abbrev pub IsCounted : Tells → List ℕ → ℕ → Type 0
IsCounted Nothing bytes size = Unit {0}
IsCounted Sizes bytes size = size ≡ length bytes
IsCounted Openings bytes size = Unit {0}

-- if sizes are written, 64 bits can count these bytes after the `size` bytes that came before
abbrev pub CanCount : Tells → ℕ → List ℕ → Type 0
CanCount Nothing size bytes = Unit {0}
CanCount Sizes size bytes = size + length bytes < 2 ^ 64
CanCount Openings size bytes = Unit {0}

-- where bytes go, if the file that was begun is opened in this way and has these bytes so far
abbrev pub IsCurrent : Tells → Opening → List ℕ → Current → Type 0
IsCurrent tells opening bytes Skipped = opening ≡ Never
IsCurrent tells opening bytes Due = (opening ≡ Late) × (bytes ≡ [])
IsCurrent tells opening bytes (File slot size) = (made_of opening bytes ≡ bytes ∷ []) × IsCounted tells bytes size
IsCurrent tells opening bytes Unopened = ⊥

-- the manner is the writer's own manner, as far as 64 bits count files
pub record IsManner (manner own : Manner) : Type 0 where
  pub name : own.name ≡ manner.name
  pub output : own.output ≡ manner.output
  pub has : (place : ℕ) → place < 2 ^ 64 → own.has_name place ≡ manner.has_name place

-- the writer makes files in this manner, and may have been given this draft
pub record Writes (manner : Manner) (writer : WriterState) (draft : Draft) : Type 0 where
  pub same : IsManner manner (manner_in writer)
  pub made : writer.names.drawn ≡ length (shares_of draft)
  pub kept : writer.keeps ≡ All → length writer.files ≡ length (shares_of draft)
  pub named : AreNamed manner (length (shares_of draft))
  pub current : IsCurrent writer.tells draft.opening draft.bytes writer.current

-- the open file is the last output, at this place or after it
abbrev pub IsLast : Current → ℕ → List Slot → Type 0
IsLast Skipped first slots = Unit {0}
IsLast Due first slots = Unit {0}
IsLast (File slot size) first slots = (first ≤ slot) × (suc slot ≡ length slots)
IsLast Unopened first slots = Unit {0}

-- The open file is the last output, and the writer's files stand from this place on. If the outputs of all files are
-- kept, they are exactly the outputs from this place on that have a file.
pub record OwnsFiles (writer : WriterState) (first : ℕ) (slots : List Slot) : Type 0 where
  pub streams : 2 ≤ first
  pub within : first ≤ length slots
  pub from : (place : ℕ) → is_among place writer.files ≡ true → first ≤ place
  pub own : writer.keeps ≡ All → (place : ℕ) → first ≤ place
      → has_file (slot_at slots place).state ≡ is_among place writer.files
  pub there : AreThere writer.files slots
  pub last : IsLast writer.current first slots

-- the open file can be written, and no file failed to be made
abbrev pub IsOpenAt : Current → List Slot → Type 0
IsOpenAt Skipped slots = Unit {0}
IsOpenAt Due slots = Unit {0}
IsOpenAt (File slot size) slots = (2 ≤ slot) × IsTrue (is_writable slots slot)
IsOpenAt Unopened slots = ⊥

-- Later calls can write: to standard output if it gets lines about files, and to the open file. The files that are kept
-- are there. Other callers may have opened outputs, too.
pub record IsReady (writer : WriterState) (slots : List Slot) : Type 0 where
  pub streams : 2 ≤ length slots
  pub output : CanTell writer.tells slots
  pub files : AreThere writer.files slots
  pub current : IsOpenAt writer.current slots

-- The faults of a call that writes. If a fault names a slot, the slot broke in the call. Standard output breaks only if
-- it gets something, and names run out only if a place has no name.
abbrev pub Breaks : Manner → List Slot → List Slot → Fault → Type 0
Breaks manner old new why.Memory = Unit {0}
Breaks manner old new (why.Write slot) = (slot ≡ 0 → writes manner.output ≡ true) × Rose slot old new
Breaks manner old new (why.Open slot) = Rose slot old new
Breaks manner old new (why.Verdict Suffixes) = (place : ℕ) × (place < 2 ^ 64) × (manner.has_name place ≡ false)
Breaks manner old new fault = ⊥

-- the fault is that an output broke
abbrev pub IsWrite : Fault → Type 0
IsWrite fault = (slot : ℕ) × (fault ≡ why.Write slot)

-- What calls do

-- Since `before` the outputs got this part, and the writer's files are among the outputs that were opened since.
pub record At (visible : Bool) (writer : WriterState) (before : List Slot) (part : Written) (now : List Slot)
    : Type 0 where
  pub owns : OwnsFiles writer (length before) now
  pub outputs : OutputsAt visible before part now

-- if the outputs had the part `low`, they have the part `high` after the call, or a fault stopped them in between
pub record Reaches (output : Output) (writer next : WriterState) (low high : Written) (outs : Effect)
    (fault : Option Fault) : Type 0 where
  pub there : (before : List Slot) → At outs.visible writer before low outs.old
      → IsThere output outs.visible (At outs.visible next before high outs.new) before low high outs.new fault

-- the writer's files are its own after the call, and are there, if they were before
pub record KeepsFiles (writer next : WriterState) (old new : List Slot) : Type 0 where
  pub owns : (first : ℕ) → OwnsFiles writer first old → OwnsFiles next first new
  pub there : AreThere writer.files old → AreThere next.files new

-- without a fault no broken slot became sound; with a fault the call has what `Breaks` says
abbrev pub KeepsOrBreaks : Manner → List Slot → List Slot → Option Fault → Type 0
KeepsOrBreaks manner old new None = KeepsBroken old new
KeepsOrBreaks manner old new (Some fault) = Breaks manner old new fault

-- What any call leaves of a writer and its outputs.
pub record Leaves (writer next : WriterState) (old new : List Slot) (fault : Option Fault) : Type 0 where
  pub naming : next.names.naming ≡ writer.names.naming
  pub tells : next.tells ≡ writer.tells
  pub keeps : next.keeps ≡ writer.keeps
  pub open_alone : writer.keeps ≡ OpenOne → next.files ≡ writer.files
  pub owns : KeepsFiles writer next old new
  pub slots : KeepsOrBreaks (manner_in writer) old new fault
  pub output : IfNone fault (IsTrue (is_writable old 0) → IsTrue (is_writable new 0))
  pub ready : IfNone fault (IsReady next new)

-- a writer that has made no file, and makes the first file with its first byte
abbrev pub new_writer : Naming → Tells → Keeps → WriterState
new_writer naming tells keeps = record {
  names = record { naming = naming; drawn = 0 };
  tells = tells;
  keeps = keeps;
  files = [];
  current = Due;
}

-- the writer while bytes go to no file
abbrev pub paused : WriterState → WriterState
paused writer = record writer { current = Skipped }

-- names ran out for the file that was to be begun: the outputs have all files that have a name
pub record RunsShort (writer : WriterState) (change : Draft → Draft) (manner : Manner) (draft : Draft) (outs : Effect)
    : Type 0 where
  pub none : manner.has_name (length (change draft).ended) ≡ false
  pub begun : made_of (change draft).opening (change draft).bytes ≡ (change draft).bytes ∷ []
  pub all : (before : List Slot) → At outs.visible writer before (draft_part manner draft) outs.old
      → OutputsAt outs.visible before (draft_part manner (change draft)) outs.new

-- The files changed as `change` says, and the outputs with them; or a fault stopped that.
pub record Goes (writer next : WriterState) (change : Draft → Draft) (outs : Effect) (fault : Option Fault)
    : Type 0 where
  pub leaves : Leaves writer next outs.old outs.new fault
  pub reaches : (manner : Manner) (draft : Draft) → Writes manner writer draft
      → Reaches manner.output writer next (draft_part manner draft) (draft_part manner (change draft)) outs fault
  pub short : IfSome fault (λ fault. fault ≡ why.Verdict Suffixes → (manner : Manner) (draft : Draft)
      → Writes manner writer draft → RunsShort writer change manner draft outs)
  pub writes : IfNone fault ((manner : Manner) (draft : Draft) → Writes manner writer draft
      → Writes manner next (change draft))
