use Rattle.split_core.{proofs.AlikeLemmas.passes_as_if}
use Rattle.split_core.proofs.PartsLemmas as part
use Rattle.split_core.proofs.splitter.SplitterStage.pass.Goals as goal

pub returns-in-Parts : goal.returns-in-Parts
returns-in-Parts g c = rw c.in-Parts.is (passes_as_if _ c.pass.result
    (part.passes_by _ _ _ _ _ _ c.pass.result (rw c.in-Parts.is at c.requires.ready) c.pass.ensures))

pub returns-in-Round : goal.returns-in-Round
returns-in-Round g c = rw c.in-Round.is (passes_as_if _ c.pass-in-Round.result c.pass-in-Round.ensures)

pub returns-in-Turn : goal.returns-in-Turn
returns-in-Turn g c = rw c.in-Turn.is (passes_as_if _ c.pass-in-Turn.result c.pass-in-Turn.ensures.passes)

pub returns-in-Chunks : goal.returns-in-Chunks
returns-in-Chunks g c = rw c.in-Chunks.is (passes_as_if _ c.pass-in-Chunks.result c.pass-in-Chunks.ensures)
