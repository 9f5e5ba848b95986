-- What `split` makes of an input that it cuts into chunks, or of which it writes what one file would have: GNU
-- coreutils manual, split, `-n N`, `-n l/N`, `-n K/N`, `-n l/K/N` and `-n r/K/N`.
use Rattle.std.specs.{
  Option.is_none,
  Prelude.{◌≡◌, ℕ, ◌||◌, max, Bool, true, false, List, [], ◌++◌, map, filter, get_or, IsTrue, Option, Some, None},
  Prelude.if◌then◌else◌,
}
use Rattle.seg_core.specs.{
  Line.lines_of,
  declared.{cut.{Chunks.Chunks, Way.Way}, unit.Unit.{Unit as Counted, TheVariants.{Bytes, Lines}}},
}
use Rattle.engine_core.specs.{
  Draft.{Draft, draft_part, part_of, share},
  FileWriter.CanTell,
  Written.{Written, only_out},
  Work.{Work, always_well, on_output},
  declared.file_writer.{Opening.TheVariants.Late, Tells.Tells},
}
use Rattle.ports_core.specs.{
  Name.Naming,
  Slot.{Slot, is_writable},
  declared.{
    fault.Fault.{Fault, TheVariants.Memory},
    verdict.Verdict.TheVariants.Changed,
    slot.State.TheVariants.Closed,
  },
}
use Rattle.split_core.specs.{
  Parts.{CutUp, dealt, unless_empty},
  Chunks.{decided, has_ended, in_the_end, is_as_said, is_longer, pieces_in, undecided},
  Sharing.CannotOpen,
  Split.{Filing, HasNames, are_named, has_bytes, is_verbose, manner_of, split_means, split_work},
}
use Rattle.seg_core.specs.declared.cut.Way.TheVariants as way

-- To files

-- what is asked for; with `elide` no file is made for an empty chunk
pub record ChunksPlan : Type 0 where
  pub chunks : Chunks
  pub elide : Bool
  pub filing : Filing

-- the pieces that have a file
abbrev pub kept : Bool → List (List ℕ) → List (List ℕ)
kept elide pieces = if elide then filter has_bytes pieces else pieces

-- the files so far: each kept piece has a file, and the rest has one once it has a byte
abbrev pub draft_by : Bool → CutUp → Draft
draft_by elide cut = record { ended = kept elide cut.full; opening = Late; bytes = cut.rest }

-- what each file has
abbrev pub files_by : Bool → CutUp → List (List ℕ)
files_by elide cut = kept elide cut.full ++ unless_empty cut.rest

-- what is written once x came in
abbrev pub chunks_settled : ChunksPlan → Option ℕ → List ℕ → Written
chunks_settled plan said x = draft_part (manner_of plan.filing) (draft_by plan.elide (decided plan.chunks 1 said x))

-- what is written if the input ends after x; all files are closed
abbrev pub chunks_whole : ChunksPlan → Option ℕ → List ℕ → Written
chunks_whole plan said x =
    part_of (manner_of plan.filing) (map (share Closed) (files_by plan.elide (in_the_end plan.chunks said x)))

-- The work of chunks in files. If the input showed another length than it has, it changed: if fewer bytes came, later
-- chunks have no file, and if more came, these are left out.
-- If it showed none, files are opened at the end, too.
abbrev pub chunks_work : ChunksPlan → Option ℕ → Work
chunks_work plan said = record {
  settled = chunks_settled plan said;
  whole = chunks_whole plan said;
  waiting = undecided plan.chunks 1 said;
  is_complete = is_longer said;
  verdict = λ x. if is_as_said said x then None else Some Changed;
  clears = false;
  means = split_means plan.filing.verbose (is_none said);
  ahead = 0;
}

-- To standard output, what the file at a place would have

abbrev pub piece_at : ℕ → CutUp → Written
piece_at place cut = only_out (get_or (pieces_in cut) place [])

-- The chunk and those before it have all that goes with them. That is known only if the input showed its size. The
-- output is complete then, so no change of the input is noticed.
abbrev pub is_written : ℕ → Chunks → Option ℕ → List ℕ → Bool
is_written place chunks None x = false
is_written place chunks (Some size) x = has_ended chunks size x place

-- how many bytes past the last that it uses a chunk may be given: its last line may end within a piece
abbrev pub ahead_of : Counted → ℕ
ahead_of Lines = 4096
ahead_of Bytes = 0

-- The work of `-n K/N` and `-n l/K/N`, where the place is K - 1: one chunk, on standard output. What stands before it
-- is dropped, and the first chunk is written as far as it is decided. If the input showed its size, nothing waits, so
-- no memory is asked for.
abbrev pub chunk_work : ℕ → Chunks → Option ℕ → Work
chunk_work place chunks said = record {
  settled = λ x. piece_at place (decided chunks (max place 1) said x);
  whole = λ x. piece_at place (in_the_end chunks said x);
  waiting = undecided chunks (max place 1) said;
  is_complete = is_written place chunks said;
  verdict = λ x. if is_written place chunks said x || is_as_said said x then None else Some Changed;
  clears = false;
  means = on_output (is_none said);
  ahead = ahead_of chunks.unit;
}

-- the lines that are dealt to the file at a place, on standard output
abbrev pub turn_of : ℕ → ℕ → ℕ → List ℕ → Written
turn_of place count delim x = only_out (dealt count place 0 (lines_of delim x))

-- the work of `-n r/K/N`, where the place is K - 1
abbrev pub turn_work : (place count delim : ℕ) → Work
turn_work place count delim = record {
  settled = turn_of place count delim;
  whole = turn_of place count delim;
  waiting = λ x. [];
  is_complete = λ x. false;
  verdict = always_well;
  clears = false;
  means = on_output true;
  ahead = 0;
}

-- The work of each way to split an input that showed this size, or none.
abbrev pub way_work : Way → Bool → Filing → Option ℕ → Work
way_work (way.Cut cut) elide filing said = split_work (record { cut = cut; elide = elide; filing = filing })
way_work (way.Chunks chunks) elide filing said =
    chunks_work (record { chunks = chunks; elide = elide; filing = filing }) said
way_work (way.Chunk place chunks) elide filing said = chunk_work place chunks said
way_work (way.Turn place count delim) elide filing said = turn_work place count delim

-- the same work, if standard output gets these lines about files
abbrev pub work_by : Way → Bool → Naming → Tells → Option ℕ → Work
work_by way elide names tells said = way_work way elide (record { names = names; verbose = is_verbose tells }) said

-- each file that is known to be made has a name
abbrev pub HasAllNames : Way → Naming → Type 0
HasAllNames (way.Cut cut) names = HasNames cut names
HasAllNames (way.Chunks chunks) names = are_named names chunks.count ≡ true
HasAllNames (way.Chunk place chunks) names = Unit {0}
HasAllNames (way.Turn place count delim) names = Unit {0}

-- standard output can take lines about files, or what one file would have
abbrev pub CanGive : Way → Tells → List Slot → Type 0
CanGive (way.Cut cut) tells slots = CanTell tells slots
CanGive (way.Chunks chunks) tells slots = CanTell tells slots
CanGive (way.Chunk place chunks) tells slots = IsTrue (is_writable slots 0)
CanGive (way.Turn place count delim) tells slots = IsTrue (is_writable slots 0)

-- a way can't be begun: there is no memory; or, of a cut, a file can't be opened
abbrev pub CannotBegin : Way → Bool → List Slot → List Slot → Fault → Type 0
CannotBegin (way.Cut cut) verbose old new fault = CannotOpen verbose old new fault
CannotBegin (way.Chunks chunks) verbose old new fault = fault ≡ Memory
CannotBegin (way.Chunk place chunks) verbose old new fault = fault ≡ Memory
CannotBegin (way.Turn place count delim) verbose old new fault = fault ≡ Memory
