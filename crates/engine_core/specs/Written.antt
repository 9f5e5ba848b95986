-- What a tool has written at some moment: bytes on standard output, and files in the order in which they were opened.
use Rattle.std.specs.{
  Prelude.{◌≡◌, ℕ, ◌+◌, ◌<◌, suc, Bool, true, false, List, [], ◌∷◌, ◌++◌, ◌⊎◌, length, map, take, drop, if◌then◌else◌},
}
use Rattle.ports_core.specs.{
  Slot.{SlotBreaks, Slot, MayBecome, is_open, with_written, unopened, visible_of, visible_slot},
  declared.{reason.Reason.Reason, fault.Fault.{Fault, TheVariants.{Memory, Write, Open}}},
}

pub record Written : Type 0 where
  pub out : List ℕ
  -- the files, as slots
  pub files : List Slot

abbrev pub nothing : Written
nothing = record { out = []; files = [] }

abbrev pub only_out : List ℕ → Written
only_out bytes = record { out = bytes; files = [] }

-- Since the state `before` the outputs got exactly this part: standard output got the part's bytes, and the slots that
-- were opened since are the part's files, in order.
pub record OutputsAt (visible : Bool) (before : List Slot) (part : Written) (now : List Slot) : Type 0 where
  pub standard : 0 < length before
  pub slots : now ≡ with_written 0 (visible_of visible part.out) before ++ map (visible_slot visible) part.files

-- `front` is a beginning of `whole`, perhaps empty, perhaps all of it
abbrev pub IsBeginning : {A : Type 0} → List A → List A → Type 0
IsBeginning {A} front whole = (rest : List A) × (whole ≡ front ++ rest)

-- The bytes of each file are a beginning of those of the file at its place in the other list, which may have more
-- files. Name and mode are the same, and both files are broken, or neither is. A file that is open is open or closed in
-- the other list. Any other file is the same in both.
abbrev pub FilesBegin : List Slot → List Slot → Type 0
FilesBegin [] wholes = Unit {0}
FilesBegin (file ∷ files) [] = ⊥
FilesBegin (file ∷ files) (whole ∷ wholes) = (file.name ≡ whole.name) × (file.mode ≡ whole.mode)
    × (file.is_broken ≡ whole.is_broken) × (MayBecome file.state whole.state ⊎ (file ≡ whole))
    × IsBeginning file.written whole.written × FilesBegin files wholes

pub record Begins (low high : Written) : Type 0 where
  pub out : IsBeginning low.out high.out
  pub files : FilesBegin low.files high.files

-- the whole has more files than the part, and the first of these further files has this name
pub record IsNext (part whole : Written) (name : List ℕ) : Type 0 where
  pub front : List Slot
  pub file : Slot
  pub rest : List Slot
  pub files : whole.files ≡ front ++ file ∷ rest
  pub place : length front ≡ length part.files
  pub name_is : file.name ≡ name

-- What a fault itself changes in the slots. A write fault breaks its slot. An open fault adds a broken slot for a file
-- that was due; the slot has the file's name, or none if there was no memory to keep it. Other faults change nothing.
abbrev pub Marks : (List ℕ → Type 0) → Fault → List Slot → List Slot → Type 0
Marks IsDue (Write slot) before after = (slot < length before) × SlotBreaks slot before after
Marks IsDue (Open slot) before after = (slot ≡ length before)
    × ((name : List ℕ) × (kept : List ℕ) × (why : Reason) × IsDue name × ((kept ≡ name) ⊎ (kept ≡ []))
    × (after ≡ before ++ unopened why kept ∷ []))
Marks IsDue fault before after = after ≡ before

-- Where a fault comes from, if the tool's files are the slots from `first` on. A write fault comes from standard output
-- or from the file at this place. An open fault comes from the next file, so the place is `count`, the number of files.
abbrev pub IsAt : Fault → ℕ → ℕ → ℕ → Type 0
IsAt (Write slot) first place count = (slot ≡ 0) ⊎ (slot ≡ first + place)
IsAt (Open slot) first place count = place ≡ count
IsAt fault first place count = Unit {0}

-- The files were reached in their order: those before this place are as in `high`, and those after it as in `low`.
pub record InOrder (low part high : List Slot) (place : ℕ) : Type 0 where
  pub done : take place part ≡ take place high
  pub untouched : drop (suc place) part ≡ drop (suc place) low

-- What a tool writes to standard output: nothing; bytes of its own; a line for each file, once the file is closed and
-- before the next is opened; or a line for each file by its name, before the file is opened.
pub data Output : Type 0 where
  gets_none : Output
  gets_bytes : Output
  gets_lines : (Slot → List ℕ) → Output
  gets_openings : (List ℕ → List ℕ) → Output

-- whether the tool writes to standard output
abbrev pub writes : Output → Bool
writes gets_none = false
writes gets_bytes = true
writes (gets_lines line) = true
writes (gets_openings line) = true

-- the lines for those of these files that aren't open
abbrev pub lines_for : (Slot → List ℕ) → List Slot → List ℕ
lines_for line [] = []
lines_for line (file ∷ files) = (if is_open file.state then [] else line file) ++ lines_for line files

-- These bytes are the lines for the files before a place. A beginning of the next line may follow, but only if standard
-- output broke in it.
pub record AreLines (line : Slot → List ℕ) (bytes : List ℕ) (files : List Slot) (place : ℕ)
    (fault : Fault) : Type 0 where
  pub next : List ℕ
  pub all : bytes ≡ lines_for line (take place files) ++ next
  pub cut : (next ≡ [])
      ⊎ ((fault ≡ Write 0) × IsBeginning next (lines_for line (take 1 (drop place files))))

-- the lines for these files, by their names
abbrev pub openings_for : (List ℕ → List ℕ) → List Slot → List ℕ
openings_for line [] = []
openings_for line (file ∷ files) = line file.name ++ openings_for line files

-- What standard output has of the line for a file that is due: nothing; a beginning of the line, perhaps all, if
-- standard output broke in it; or the whole line, if after it the file could not be opened, or no number was left for
-- the file.
abbrev pub IsDueLine : (List ℕ → Type 0) → (List ℕ → List ℕ) → List ℕ → Fault → Type 0
IsDueLine IsDue line bytes (Write slot) = (bytes ≡ [])
    ⊎ ((slot ≡ 0) × ((name : List ℕ) × IsDue name × IsBeginning bytes (line name)))
IsDueLine IsDue line bytes (Open slot) = (name : List ℕ) × IsDue name × (bytes ≡ line name)
IsDueLine IsDue line bytes Memory = (bytes ≡ []) ⊎ ((name : List ℕ) × IsDue name × (bytes ≡ line name))
IsDueLine IsDue line bytes fault = bytes ≡ []

-- Since `low` standard output got the lines for the files that were opened since, and then at most the line for the
-- next file.
pub record AreOpenings (line : List ℕ → List ℕ) (low part : Written) (IsDue : List ℕ → Type 0) (fault : Fault)
    : Type 0 where
  pub next : List ℕ
  pub all : part.out ≡ low.out ++ (openings_for line (drop (length low.files) part.files) ++ next)
  pub due : IsDueLine IsDue line next fault

-- The lines for files came in order. For lines about closed files: nothing was written since `low`; or the lines for
-- the files of `low`, and after them what standard output got since, are the lines for the files before this place. For
-- lines about files that are opened: standard output got the lines for the files that were opened since `low`.
abbrev pub LinesInOrder : Output → Written → Written → Written → ℕ → Fault → Type 0
LinesInOrder gets_none low part high place fault = Unit {0}
LinesInOrder gets_bytes low part high place fault = Unit {0}
LinesInOrder (gets_lines line) low part high place fault = (part ≡ low)
    ⊎ ((since : List ℕ) × (part.out ≡ low.out ++ since)
    × AreLines line (lines_for line low.files ++ since) part.files place fault)
LinesInOrder (gets_openings line) low part high place fault = AreOpenings line low part (IsNext part high) fault

-- A fault stopped the outputs at a part between `low` and `high`, and left its mark. It came at the file at `place`:
-- the files before this file have all that was due, and the files after it are as they were.
pub record StoppedBetween (output : Output) (visible : Bool) (before : List Slot) (low high : Written) (fault : Fault)
    (now : List Slot) : Type 0 where
  pub part : Written
  pub above : Begins low part
  pub below : Begins part high
  pub place : ℕ
  pub order : InOrder low.files part.files high.files place
  pub lines : LinesInOrder output low part high place fault
  pub reached : List Slot
  pub outputs : OutputsAt visible before part reached
  pub marks : Marks (IsNext part high) fault reached now
  pub from : IsAt fault (length before) place (length part.files)
