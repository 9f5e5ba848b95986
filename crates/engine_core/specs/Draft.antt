-- What a tool that writes one file after another has written: the files that ended, and the open file.
use Rattle.std.specs.{
  Prelude.{◌≡◌, ℕ, ◌+◌, ◌<◌, Bool, true, List, [], ◌∷◌, ◌++◌, length, map, codes, decimal, if◌then◌else◌},
}
use Rattle.engine_core.specs.{
  declared.file_writer.{
    Opening.{Opening, TheVariants.{Never, Late, AtOnce}},
    Tells.{Tells, TheVariants.{Nothing, Sizes, Openings}},
  },
  Written.{Written, Output, gets_none, gets_bytes, gets_lines, gets_openings, lines_for, openings_for},
}
use Rattle.ports_core.specs.{
  declared.slot.{Mode.TheVariants.Fresh, State.{State, TheVariants.{Open, Closed}}},
  Name.{Naming, has_name, name_at},
  Slot.{Slot, opened},
  Text.in_quotes,
}

-- how files are made
pub record Manner : Type 0 where
  -- whether the file at a place has a name, and which
  pub has_name : ℕ → Bool
  pub name : ℕ → List ℕ
  -- what standard output gets about the files
  pub output : Output

-- how files with these names are made, if standard output gets this about them
abbrev pub manner_by : Naming → Output → Manner
manner_by naming output = record { has_name = has_name naming; name = name_at naming; output = output }

-- the first `count` places have names
abbrev pub AreNamed : Manner → ℕ → Type 0
AreNamed manner count = (place : ℕ) → place < count → manner.has_name place ≡ true

-- the bytes that a file gets, and whether it is still open
pub record Share : Type 0 where
  pub state : State
  pub bytes : List ℕ

abbrev pub share : State → List ℕ → Share
share state bytes = record { state = state; bytes = bytes }

abbrev pub file_at : Manner → ℕ → Share → Slot
file_at manner place one = record (opened (manner.name place) Fresh) { written = one.bytes; state = one.state }

-- the files of these shares, named from a place on; the list ends at the first place without a name
abbrev pub files_from : Manner → ℕ → List Share → List Slot
files_from manner place [] = []
files_from manner place (one ∷ shares) = if manner.has_name place
    then file_at manner place one ∷ files_from manner (place + 1) shares else []

-- the lines that standard output gets about these files
abbrev pub told_of_files : Output → List Slot → List ℕ
told_of_files (gets_lines line) files = lines_for line files
told_of_files (gets_openings line) files = openings_for line files
told_of_files output files = []

-- the line that standard output gets before a file with this name is opened
abbrev pub told_before : Output → List ℕ → List ℕ
told_before gets_none name = []
told_before gets_bytes name = []
told_before (gets_lines line) name = []
told_before (gets_openings line) name = line name

abbrev pub part_with : Output → List Slot → Written
part_with output files = record { out = told_of_files output files; files = files }

-- what is written of these shares
abbrev pub part_of : Manner → List Share → Written
part_of manner shares = part_with manner.output (files_from manner 0 shares)

-- the size of a file, in bytes, as a line
abbrev pub size_of_file : Slot → List ℕ
size_of_file file = decimal (length file.written) ++ 10 ∷ []

-- the line for a file that is to be opened
abbrev pub opening_line : List ℕ → List ℕ
opening_line name = codes "creating file " ++ in_quotes name ++ 10 ∷ []

abbrev pub output_of : Tells → Output
output_of Nothing = gets_none
output_of Sizes = gets_lines size_of_file
output_of Openings = gets_openings opening_line

-- the file that these bytes make, if they make one: a list of one file, or of none
abbrev pub made_of : Opening → List ℕ → List (List ℕ)
made_of Never bytes = []
made_of Late [] = []
made_of Late (byte ∷ bytes) = (byte ∷ bytes) ∷ []
made_of AtOnce bytes = bytes ∷ []

pub record Draft : Type 0 where
  -- the bytes of each file that ended
  pub ended : List (List ℕ)
  -- when the file that was begun is opened, if ever, and the bytes that it has so far
  pub opening : Opening
  pub bytes : List ℕ

-- the shares of all files of a draft
abbrev pub shares_of : Draft → List Share
shares_of draft = map (share Closed) draft.ended ++ map (share Open) (made_of draft.opening draft.bytes)

abbrev pub draft_part : Manner → Draft → Written
draft_part manner draft = part_of manner (shares_of draft)

-- the draft once the file that was begun got more bytes
abbrev pub with_bytes : List ℕ → Draft → Draft
with_bytes bytes draft = record draft { bytes = draft.bytes ++ bytes }

-- the draft once the file that was begun has ended, and the next file was begun
abbrev pub with_next : Opening → Draft → Draft
with_next opening draft =
    record { ended = draft.ended ++ made_of draft.opening draft.bytes; opening = opening; bytes = [] }
