-- What private calls say: cutting an input into chunks.
use Rattle.std.specs.{
  Prelude.{◌≡◌, ℕ, ◌+◌, ◌-◌, ◌<◌, ◌≤◌, ◌⊎◌, max, min, true, false, List, ◌++◌, length, take, drop, Option},
  Prelude.{Some, None, IfNone, Result, Ok, Err, IfErr, IfOk, OnOk},
}
use Rattle.engine_core.specs.{Written.Written, InTurn.fault_in, Work.{IsNeeded, Work}}
use Rattle.ports_core.specs.{Slot.Effect, declared.fault.Fault.Fault}
use Rattle.split_core.specs.{
  Chunks.{before_chunk, begun_before, chunk_start, chunks_within, is_within, passed},
  ChunkerState.{CutterState, HasCut, course, first_on, part_on, whole_on, work_on},
  Parts.uncut,
  declared.chunk_cutter.ChunkCutter.ChunkCutter,
  inner.{Chunks.cut_before, Seen.{is_past_on, seen_sink}, Brings.{Brings, Changes, Stays, with_rest}},
}

abbrev pub seen_cutter : ChunkCutter → CutterState
seen_cutter cutter = record {
  chunks = cutter.chunks;
  at = cutter.at;
  is_within = cutter.is_within;
  sink = seen_sink cutter.sink;
}

-- what of the next text goes with the chunk that was begun, if this chunk ends at a place
abbrev pub cut_to : CutterState → ℕ → List ℕ → List ℕ
cut_to cutter end text = begun_before cutter.chunks.unit cutter.chunks.delim (max (end - cutter.at) 1) text

-- the bytes that go with the chunk that was begun were written
pub record WritesTo (cutter next : CutterState) (end : ℕ) (text : List ℕ) (outs : Effect) (result : Result ℕ Fault)
    : Type 0 where
  pub chunks : next.chunks ≡ cutter.chunks
  pub place : next.sink.place ≡ cutter.sink.place
  pub changes : Changes cutter.sink next.sink (with_rest (cut_to cutter end text)) outs (fault_in result)
  pub count : IfOk result (λ n. (0 < n) × (n ≤ length text) × (take n text ≡ cut_to cutter end text))
  pub at : IfOk result (λ n. next.at ≡ cutter.at + n)
  pub kept : IfErr result (λ fault. next.at ≡ cutter.at)
  pub bound : next.at ≤ cutter.at + length text
  pub within : OnOk result
      (next.is_within ≡ is_within cutter.chunks.unit cutter.chunks.delim (cut_to cutter end text))

-- the work of an input that showed this size
abbrev pub said_work : CutterState → ℕ → Work
said_work cutter size = work_on (course cutter) cutter.chunks (Some size)

-- x was cut off, which has at most this size, and is cut up as `chunks_within` says
pub record IsCut (cutter : CutterState) (size : ℕ) (x : List ℕ) : Type 0 where
  pub cut : HasCut cutter x (chunks_within cutter.chunks size x)
  pub fits : length x ≤ size

abbrev pub part_so : CutterState → ℕ → List ℕ → Written
part_so cutter size x = part_on (course cutter) (chunks_within cutter.chunks size x)

-- x was cut off, all of it before the end of the chunk that was begun, and the chunks before that have ended
pub record IsCutOff (cutter : CutterState) (size : ℕ) (x : List ℕ) : Type 0 where
  pub cut : HasCut cutter x (cut_before cutter.chunks size x cutter.sink.place)
  pub fits : length x ≤ size
  pub few : cutter.sink.place ≤ cutter.chunks.count
  pub before : chunk_start cutter.chunks.count size cutter.sink.place ≤ passed cutter.chunks size x
  pub begun : before_chunk cutter.chunks size (cutter.sink.place + 1) x ≡ x

abbrev pub part_at : CutterState → ℕ → List ℕ → ℕ → Written
part_at cutter size x place = part_on (course cutter) (cut_before cutter.chunks size x place)

-- all chunks that had all that goes with them ended
pub record EndsFull (cutter next : CutterState) (size : ℕ) (outs : Effect) (fault : Option Fault) : Type 0 where
  pub chunks : next.chunks ≡ cutter.chunks
  pub at : next.at ≡ cutter.at
  pub stays : Stays (course cutter) cutter.sink.aim next.sink.aim outs.old outs.new fault
  pub brings : (x : List ℕ) → IsCutOff cutter size x
      → Brings (course cutter) cutter.sink.aim next.sink.aim (part_at cutter size x cutter.sink.place)
      (part_so cutter size x) outs fault
  pub leads : (x : List ℕ) → IsCutOff cutter size x → IfNone fault (IsCut next size x)

-- more of a text was cut off, or a fault came meanwhile
pub record CutsMore (cutter next : CutterState) (size : ℕ) (bytes : List ℕ) (outs : Effect) (fault : Option Fault)
    : Type 0 where
  pub chunks : next.chunks ≡ cutter.chunks
  pub bound : next.at ≤ cutter.at + length bytes
  pub stays : Stays (course cutter) cutter.sink.aim next.sink.aim outs.old outs.new fault
  pub brings : (x : List ℕ) → IsCut cutter size x → length (x ++ bytes) ≤ size
      → Brings (course cutter) cutter.sink.aim next.sink.aim (part_so cutter size x)
      (part_so cutter size (x ++ bytes)) outs fault
  pub leads : (x : List ℕ) → IsCut cutter size x → length (x ++ bytes) ≤ size
      → IfNone fault (IsCut next size (x ++ bytes))

-- the output isn't complete yet
abbrev pub IsOpen : CutterState → ℕ → List ℕ → Type 0
IsOpen cutter size x = (said_work cutter size).is_complete x ≡ false

-- a stretch of the text was cut off, or a fault came
abbrev pub CutsStretch : (cutter next : CutterState) → ℕ → List ℕ → Effect → Result ℕ Fault → Type 0
CutsStretch cutter next size text outs (Ok n) = (0 < n) × (n ≤ length text)
    × (next.at ≡ cutter.at + n) × CutsMore cutter next size (take n text) outs None
    × (is_past_on cutter.sink ≡ false → (x : List ℕ) → IsCut cutter size x → length (x ++ text) ≤ size
    → IsOpen cutter size (x ++ take (n - 1) text))
CutsStretch cutter next size text outs (Err fault) = CutsMore cutter next size text outs (Some fault)

-- Of the text within the size, as much was cut off as the complete output needs; the last `left` bytes are left.
pub record CutsAs (cutter next : CutterState) (size : ℕ) (text : List ℕ) (left : ℕ) (outs : Effect) : Type 0 where
  pub few : left ≤ length text
  pub at : next.at ≡ cutter.at + (length text - left)
  pub fits : cutter.at ≤ size → cutter.at + (length text - left) ≤ size
  pub still : is_past_on cutter.sink ≡ true → left ≡ length text
  pub cuts : CutsMore cutter next size (take (length text - left) text) outs None
  pub needed : (left ≡ length text) ⊎ ((x : List ℕ) → IsCut cutter size x
      → IsNeeded (said_work cutter size).is_complete 1 (x ++ take (length text - left) text))
  pub enough : (left ≡ 0) ⊎ (is_past_on next.sink ≡ true) ⊎ (size ≤ next.at)

abbrev pub CutsSo : (cutter next : CutterState) → ℕ → List ℕ → Effect → Result ℕ Fault → Type 0
CutsSo cutter next size text outs (Ok left) = CutsAs cutter next size text left outs
CutsSo cutter next size text outs (Err fault) =
    CutsMore cutter next size (take (min (length text) (size - cutter.at)) text) outs (Some fault)

-- Where the size isn't known

-- a text was cut off, and all of it begins before a place
abbrev pub BeginsBefore : CutterState → ℕ → List ℕ → Type 0
BeginsBefore cutter end z =
    HasCut cutter z (uncut z) × (begun_before cutter.chunks.unit cutter.chunks.delim end z ≡ z)

-- what of the text that was cut off and of what waits begins before a place
abbrev pub all_before : CutterState → List ℕ → ℕ → List ℕ → List ℕ
all_before cutter waiting end z = begun_before cutter.chunks.unit cutter.chunks.delim end (z ++ waiting)

-- what begins before a place was written, and the rest waits
pub record Settles (cutter next : CutterState) (waiting left : List ℕ) (end : ℕ) (outs : Effect)
    (fault : Option Fault) : Type 0 where
  pub chunks : next.chunks ≡ cutter.chunks
  pub bound : next.at + length left ≤ cutter.at + length waiting
  pub stays : Stays (course cutter) cutter.sink.aim next.sink.aim outs.old outs.new fault
  pub brings : (z : List ℕ) → BeginsBefore cutter end z
      → Brings (course cutter) cutter.sink.aim next.sink.aim (part_on (course cutter) (uncut z))
      (part_on (course cutter) (uncut (all_before cutter waiting end z))) outs fault
  pub leads : (z : List ℕ) → BeginsBefore cutter end z
      → IfNone fault (HasCut next (all_before cutter waiting end z) (uncut (all_before cutter waiting end z))
      × (left ≡ drop (length (all_before cutter waiting end z)) (z ++ waiting)))

-- z was cut off; with what waits it has this size, and it is what is settled of both
pub record IsFront (cutter : CutterState) (waiting : List ℕ) (size : ℕ) (z : List ℕ) : Type 0 where
  pub cut : HasCut cutter z (uncut z)
  pub all : length z + length waiting ≡ size
  pub is : before_chunk cutter.chunks size (first_on (course cutter)) (z ++ waiting) ≡ z

-- what was cut off and what waits are cut up into chunks, and all chunks end
pub record EndsHeld (cutter next : CutterState) (waiting left : List ℕ) (size : ℕ) (outs : Effect)
    (fault : Option Fault) : Type 0 where
  pub chunks : next.chunks ≡ cutter.chunks
  pub bound : next.at + length left ≤ cutter.at + length waiting
  pub stays : Stays (course cutter) cutter.sink.aim next.sink.aim outs.old outs.new fault
  pub brings : (z : List ℕ) → IsFront cutter waiting size z
      → Brings (course cutter) cutter.sink.aim next.sink.aim (part_on (course cutter) (uncut z))
      (whole_on (course cutter) (chunks_within cutter.chunks size (z ++ waiting))) outs fault
