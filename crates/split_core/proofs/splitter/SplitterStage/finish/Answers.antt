use Rattle.std.proofs.Common.{Ok}
use Rattle.split_core.{proofs.AlikeLemmas.finishes_as_if}
use Rattle.split_core.proofs.PartsLemmas as part
use Rattle.split_core.proofs.RoundLemmas as dealing
use Rattle.split_core.proofs.TurnLemmas as turn
use Rattle.split_core.proofs.splitter.SplitterStage.finish.Goals as goal

pub returns-in-Parts : goal.returns-in-Parts
returns-in-Parts g c = rw c.in-Parts.is (finishes_as_if _ c.finish.result
    (part.finishes_by _ _ _ _ _ c.finish.result (rw c.in-Parts.is at c.requires.ready) c.finish.ensures))

pub returns-in-Round : goal.returns-in-Round
returns-in-Round g c = rw c.in-Round.is (finishes_as_if _ c.finish-in-Round.result
    (dealing.finishes_by _ _ c.finish-in-Round.ensures))

pub returns-in-Turn : goal.returns-in-Turn
returns-in-Turn g c = rw c.in-Turn.is (finishes_as_if _ (Ok tt)
    (turn.finishes_by _ _ _ (rw c.in-Turn.is at c.requires.ready)))

pub returns-in-Chunks : goal.returns-in-Chunks
returns-in-Chunks g c = rw c.in-Chunks.is (finishes_as_if _ c.finish-in-Chunks.result c.finish-in-Chunks.ensures)
