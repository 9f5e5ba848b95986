-- What private calls say: chunks of an input, as a stage.
use Rattle.std.specs.Prelude.{◌≡◌, ℕ, max, Bool, List, length, Option, Result}
use Rattle.seg_core.specs.declared.unit.Unit.{Unit as Counted}
use Rattle.engine_core.specs.{Engine.TookIn, Written.Written}
use Rattle.ports_core.specs.{Slot.Effect, declared.fault.Fault.Fault}
use Rattle.split_core.specs.{
  Alike.as_if,
  ChunkerState.{ChunkerState, Holds, course, work},
  ChunkWork.ahead_of,
  Ways.terms,
  declared.splitter.Splitter.TheVariants.Chunks,
  inner.Brings.{Brings, Stays},
}
use Rattle.split_core.specs.inner.Ways as ways

-- this many bytes were passed over; the chunk at this place was begun with them, and they may end within a line
abbrev pub passed_to : ChunkerState → ℕ → ℕ → Bool → ChunkerState
passed_to chunker front place within = record chunker {
  cutter = record chunker.cutter {
    at = front;
    is_within = within;
    sink = record chunker.cutter.sink { place = place };
  };
}

-- how many bytes a piece may have if this many are missing to the chunk's end
abbrev pub piece_for : Counted → ℕ → ℕ
piece_for unit missing = max missing (max (ahead_of unit) 1)

-- the state that passed over these bytes is as if fed them, whatever they are
abbrev pub TakesFront : ChunkerState → ℕ × ℕ × Bool → Type 0
TakesFront chunker front = (x : List ℕ) → front.0 ≡ length x
    → TookIn (as_if terms) (Chunks chunker) (Chunks (passed_to chunker front.0 front.1 front.2)) x

-- both were asked for the same
pub record IsLike (chunker next : ChunkerState) : Type 0 where
  pub said : next.said ≡ chunker.said
  pub chunks : next.cutter.chunks ≡ chunker.cutter.chunks

-- the outputs went from what is settled to this part, or a fault stopped them between the two
pub record Comes (chunker next : ChunkerState) (high : List ℕ → Written) (outs : Effect) (fault : Option Fault)
    : Type 0 where
  pub stays : Stays (course chunker.cutter) chunker.cutter.sink.aim next.cutter.sink.aim outs.old outs.new fault
  pub brings : (x : List ℕ) → Holds chunker x
      → Brings (course chunker.cutter) chunker.cutter.sink.aim next.cutter.sink.aim ((work chunker).settled x) (high x)
      outs fault

-- what a call leaves that takes in a piece
abbrev pub PassesAs : (chunker next : ChunkerState) → List ℕ → Effect → Result (Unit {0}) Fault → Type 0
PassesAs chunker next = ways.PassesAs (Chunks chunker) (Chunks next)

-- what the call at the end leaves
abbrev pub EndsAs : (chunker next : ChunkerState) → Effect → Result (Unit {0}) Fault → Type 0
EndsAs chunker next = ways.EndsAs (Chunks chunker) (Chunks next)
