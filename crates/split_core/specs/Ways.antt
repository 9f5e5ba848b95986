-- The ways to cut an input, as one stage.
use Rattle.std.specs.Prelude.{◌≡◌, ℕ, List, [], true}
use Rattle.ports_core.specs.Slot.{Slot}
use Rattle.engine_core.specs.{Work.Work, Engine.Terms}
use Rattle.split_core.specs.{
  declared.splitter.Splitter.{Splitter, TheVariants.{Parts, Round, Chunks, Turn}},
  PartsState.{Stands, IsReady},
}
use Rattle.split_core.specs.PartsState as part
use Rattle.split_core.specs.Round as round
use Rattle.split_core.specs.Turn as turn
use Rattle.split_core.specs.ChunkerState as chunker

abbrev pub Holds : Splitter → List ℕ → Type 0
Holds (Parts state) x = Stands state x
Holds (Round state) x = round.Holds state x
Holds (Chunks state) x = chunker.Holds state x
Holds (Turn state) x = turn.Holds state x

abbrev pub work : Splitter → Work
work (Parts state) = part.work state
work (Round state) = round.work state
work (Chunks state) = chunker.work state
work (Turn state) = turn.work state

abbrev pub Ready : Splitter → List Slot → Type 0
Ready (Parts state) slots = IsReady state slots
Ready (Round state) slots = round.Ready state slots
Ready (Chunks state) slots = chunker.Ready state slots
Ready (Turn state) slots = turn.Ready slots

abbrev pub Owns : Splitter → ℕ → List Slot → Type 0
Owns (Parts state) first slots = part.Owns state first slots
Owns (Round state) first slots = round.Owns state first slots
Owns (Chunks state) first slots = chunker.Owns state first slots
Owns (Turn state) first slots = Unit {0}

-- how many bytes came in, or 0 if the stage doesn't count them
abbrev pub size : Splitter → ℕ
size (Chunks state) = chunker.total state
size splitter = 0

-- what the stage owes; it removes no files
abbrev pub terms : Terms Splitter
terms = record {
  Holds = Holds;
  work = work;
  IsDone = λ splitter x. (work splitter).is_complete x ≡ true;
  size = size;
  may_lack = λ splitter piece. true;
  Ready = Ready;
  Owns = Owns;
  files = λ splitter. [];
}
