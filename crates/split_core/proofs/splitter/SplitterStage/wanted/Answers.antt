use Rattle.split_core.proofs.RoundLemmas.{spares_none}
use Rattle.split_core.proofs.splitter.SplitterStage.wanted.Goals as goal

pub returns-in_default-clause-few : goal.returns-in_default-clause-few
returns-in_default-clause-few c = spares_none _ _ c.in_default.not-Chunks

pub returns-clause-few : goal.returns-clause-few
returns-clause-few c = rw c.in-Chunks.is c.most_wanted.ensures.few
