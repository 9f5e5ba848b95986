-- What contracts see of the stage that takes in bytes, and what its calls do.
use Rattle.std.specs.Prelude.{◌≡◌, ◌≢◌, ℕ, ◌+◌, ◌<◌, ◌≤◌, ◌^◌, true, List, [], length, IsTrue}
use Rattle.seg_core.specs.Line.{delimiters, first_lines}
use Rattle.engine_core.specs.{
  FileWriter.{OwnsFiles, IsManner, IsReady as CanWrite, manner_in},
  declared.file_writer.Keeps.TheVariants.All,
  Work.Work,
  Engine.Terms,
}
use Rattle.ports_core.specs.Slot.{Slot, is_writable}
use Rattle.csplit_core.specs.{
  Csplit.csplit_work,
  Cutter.{CutterState, IsSound, Stands, load},
  Output.manner_of,
  Input.{newline, open_line},
  declared.progress.Attempt.TheVariants.Below,
}

pub record CsplitState : Type 0 where
  pub cutter : CutterState
  -- what follows the last newline
  pub rest : List ℕ
  -- how many bytes came in
  pub taken : ℕ

-- the complete lines, as bytes
abbrev pub whole_lines : List ℕ → List ℕ
whole_lines x = first_lines newline (delimiters newline x) x

abbrev pub work : CsplitState → Work
work stage = csplit_work stage.cutter.style stage.cutter.operands

-- The stage may have been fed x: the cutter has the complete lines, and the open line waits for its end. Once later
-- input goes nowhere, no line waits.
pub record Holds (stage : CsplitState) (x : List ℕ) : Type 0 where
  pub stands : Stands stage.cutter (whole_lines x)
  pub live : stage.cutter.aim ≢ Below → stage.rest ≡ open_line x
  pub past : stage.cutter.aim ≡ Below → stage.rest ≡ []

-- the outputs of later calls can be written, and the stage's numbers are small
pub record IsReady (stage : CsplitState) (slots : List Slot) : Type 0 where
  pub writer : CanWrite stage.cutter.writer slots
  pub output : IsTrue (is_writable slots 0)
  -- files are named as asked for, and sizes are written exactly if they are wanted
  pub manner : IsManner (manner_of stage.cutter.style) (manner_in stage.cutter.writer)
  pub sound : IsSound stage.cutter
  pub unbroken : delimiters newline stage.rest ≡ 0
  pub room : load stage.cutter + length stage.rest ≤ stage.taken
  pub few : stage.taken < 2 ^ 63

-- the outputs from this place on that have a file are the stage's own
pub record Owns (stage : CsplitState) (first : ℕ) (slots : List Slot) : Type 0 where
  pub writer : OwnsFiles stage.cutter.writer first slots
  pub all : stage.cutter.writer.keeps ≡ All

-- the outputs of the files that the stage made and didn't remove
abbrev pub files : CsplitState → List ℕ
files stage = stage.cutter.writer.files

-- What the stage says of its states. Its output is never complete.
abbrev pub terms : Terms CsplitState
terms = record {
  Holds = Holds;
  work = work;
  IsDone = λ stage x. ⊥;
  size = λ stage. stage.taken;
  may_lack = λ stage piece. true;
  Ready = IsReady;
  Owns = Owns;
  files = files;
}
