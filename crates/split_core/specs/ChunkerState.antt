-- What contracts see of chunks of an input.
use Rattle.std.specs.{
  Prelude.{◌≡◌, ℕ, ◌+◌, ◌≤◌, max, nat_lt, Bool, true, false, List, [], length, map, Option, Some, None, IsTrue},
}
use Rattle.engine_core.specs.{
  Draft.{draft_part, part_of, share},
  FileWriter.{WriterState, Writes, OwnsFiles, IsReady as CanWrite},
  Written.Written,
  Work.{Work, IsSpare},
}
use Rattle.ports_core.specs.{Slot.{Slot, is_writable}, declared.slot.State.TheVariants.Closed}
use Rattle.seg_core.specs.declared.cut.Chunks.{Chunks}
use Rattle.split_core.specs.{
  Parts.CutUp,
  Chunks.{before_chunk, chunks_within, decided, in_the_end, undecided, is_within},
  ChunkWork.{chunk_work, chunks_work, draft_by, files_by, piece_at},
  Split.{Filing, TellsNoSizes, are_named, is_verbose, manner_of},
}

-- Where chunks go

pub data AimState : Type 0 where
  -- each chunk goes to a file; the flag says that empty chunks have none
  to_files : WriterState → Bool → AimState
  -- only the chunk at this place is written, to standard output
  to_output : ℕ → AimState

-- what writes one chunk after another
pub record SinkState : Type 0 where
  -- the place of the chunk that was begun
  pub place : ℕ
  pub aim : AimState

-- where chunks go, however far they are written
pub data Course : Type 0 where
  in_files : Filing → Bool → Course
  in_output : ℕ → Course

-- how a writer makes files
abbrev pub filing_by : WriterState → Filing
filing_by writer = record { names = writer.names.naming; verbose = is_verbose writer.tells }

abbrev pub course_of : AimState → Course
course_of (to_files writer elide) = in_files (filing_by writer) elide
course_of (to_output chunk) = in_output chunk

-- if the input showed no size, what stands before the chunk at this place is settled
abbrev pub first_on : Course → ℕ
first_on (in_files filing elide) = 1
first_on (in_output chunk) = max chunk 1

-- what is written of a text that is cut up
abbrev pub part_on : Course → CutUp → Written
part_on (in_files filing elide) cut = draft_part (manner_of filing) (draft_by elide cut)
part_on (in_output chunk) cut = piece_at chunk cut

-- what is written of a whole text that is cut up
abbrev pub whole_on : Course → CutUp → Written
whole_on (in_files filing elide) cut = part_of (manner_of filing) (map (share Closed) (files_by elide cut))
whole_on (in_output chunk) cut = piece_at chunk cut

-- the work of a course
abbrev way_on : Course → Chunks → Option ℕ → Work
way_on (in_files filing elide) chunks said =
    chunks_work (record { chunks = chunks; elide = elide; filing = filing }) said
way_on (in_output chunk) chunks said = chunk_work chunk chunks said

-- The same work as `way_on`, with what both courses share written once.
abbrev pub work_on : Course → Chunks → Option ℕ → Work
work_on on chunks said = record (way_on on chunks said) {
  settled = λ x. part_on on (decided chunks (first_on on) said x);
  whole = λ x. whole_on on (in_the_end chunks said x);
  waiting = undecided chunks (first_on on) said;
  clears = false;
}

-- the files of all chunks have names
abbrev pub HasAll : Course → ℕ → Type 0
HasAll (in_files filing elide) count = are_named filing.names count ≡ true
HasAll (in_output chunk) count = Unit {0}

abbrev pub CanHave : AimState → CutUp → Type 0
CanHave (to_files writer elide) cut = Writes (manner_of (filing_by writer)) writer (draft_by elide cut)
CanHave (to_output chunk) cut = Unit {0}

-- the sink may have been given this
pub record Carries (sink : SinkState) (cut : CutUp) : Type 0 where
  pub placed : length cut.full ≡ sink.place
  pub has : CanHave sink.aim cut

-- the outputs of later calls can be written, and standard output gets no sizes of files
abbrev pub IsAimed : AimState → List Slot → Type 0
IsAimed (to_files writer elide) slots = CanWrite writer slots × TellsNoSizes writer.tells
IsAimed (to_output chunk) slots = IsTrue (is_writable slots 0)

-- the open file is the last output, at this place or after it
abbrev pub OwnsAim : AimState → ℕ → List Slot → Type 0
OwnsAim (to_files writer elide) first slots = OwnsFiles writer first slots
OwnsAim (to_output chunk) first slots = Unit {0}

-- The stage

pub record CutterState : Type 0 where
  pub chunks : Chunks
  -- how many bytes were cut off
  pub at : ℕ
  -- whether chunks have whole lines, and these bytes end within a line
  pub is_within : Bool
  pub sink : SinkState

pub record ChunkerState : Type 0 where
  -- the size that the input showed, if it showed one
  pub said : Option ℕ
  pub cutter : CutterState
  -- the bytes that wait
  pub waiting : List ℕ
  -- how many bytes came after the output was complete
  pub spare : ℕ

-- how many bytes came in
abbrev pub total : ChunkerState → ℕ
total chunker = chunker.cutter.at + length chunker.waiting + chunker.spare

abbrev pub course : CutterState → Course
course cutter = course_of cutter.sink.aim

-- the chunks that are asked for exist
abbrev pub can_cut : Course → ℕ → Bool
can_cut (in_files filing elide) count = nat_lt 0 count
can_cut (in_output chunk) count = nat_lt chunk count

abbrev pub work : ChunkerState → Work
work chunker = work_on (course chunker.cutter) chunker.cutter.chunks chunker.said

-- these bytes were cut off, and `cut` is what they were cut up into
pub record HasCut (cutter : CutterState) (x : List ℕ) (cut : CutUp) : Type 0 where
  pub can : can_cut (course cutter) cutter.chunks.count ≡ true
  pub all : HasAll (course cutter) cutter.chunks.count
  pub at : cutter.at ≡ length x
  pub within : cutter.is_within ≡ is_within cutter.chunks.unit cutter.chunks.delim x
  pub carries : Carries cutter.sink cut

-- x may be what came in, if the input showed no size
pub record IsUnsaid (chunker : ChunkerState) (x : List ℕ) : Type 0 where
  pub cut : HasCut chunker.cutter
      (before_chunk chunker.cutter.chunks (length x) (first_on (course chunker.cutter)) x)
      (decided chunker.cutter.chunks (first_on (course chunker.cutter)) None x)
  pub waits : chunker.waiting ≡ undecided chunker.cutter.chunks (first_on (course chunker.cutter)) None x
  pub spare : chunker.spare ≡ 0

-- x may be what came in, if the input showed this size
pub record IsSaid (chunker : ChunkerState) (size : ℕ) (x : List ℕ) : Type 0 where
  pub spare : IsSpare (work_on (course chunker.cutter) chunker.cutter.chunks (Some size)) x chunker.spare
  pub within : length spare.used ≤ size
  pub cut : HasCut chunker.cutter spare.used (chunks_within chunker.cutter.chunks size spare.used)
  pub waits : chunker.waiting ≡ []

abbrev pub HoldsBy : Option ℕ → ChunkerState → List ℕ → Type 0
HoldsBy None chunker x = IsUnsaid chunker x
HoldsBy (Some size) chunker x = IsSaid chunker size x

-- x may be what came in
abbrev pub Holds : ChunkerState → List ℕ → Type 0
Holds chunker x = HoldsBy chunker.said chunker x

abbrev pub Ready : ChunkerState → List Slot → Type 0
Ready chunker slots = IsAimed chunker.cutter.sink.aim slots

abbrev pub Owns : ChunkerState → ℕ → List Slot → Type 0
Owns chunker first slots = OwnsAim chunker.cutter.sink.aim first slots
