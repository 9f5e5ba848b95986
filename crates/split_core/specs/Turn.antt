-- One turn of lines that are dealt, as a stage: GNU coreutils manual, split, `-n r/K/N`.
use Rattle.std.specs.Prelude.{◌≡◌, ℕ, ◌%◌, ◌<◌, List, IsTrue}
use Rattle.seg_core.specs.Line.{delimiters}
use Rattle.ports_core.specs.Slot.{Slot, is_writable}
use Rattle.engine_core.specs.Work.{Work}
use Rattle.split_core.specs.ChunkWork.{turn_work}

-- what contracts see of such a stage
pub record TurnState : Type 0 where
  -- the byte that lines end with
  pub delim : ℕ
  -- among how many files lines are dealt
  pub count : ℕ
  -- the place of the file that is written
  pub place : ℕ
  -- the place of the file that the next byte goes to
  pub next : ℕ

abbrev pub work : TurnState → Work
work turn = turn_work turn.place turn.count turn.delim

-- the stage can have been fed x
pub record Holds (turn : TurnState) (x : List ℕ) : Type 0 where
  pub within : turn.place < turn.count
  pub next : turn.next ≡ delimiters turn.delim x % turn.count

abbrev pub Ready : List Slot → Type 0
Ready slots = IsTrue (is_writable slots 0)
