use Rattle.engine_core.proofs.LoadLemmas.{loads_none}
use Rattle.split_core.proofs.splitter.SplitterStage.load.Goals as goal

pub returns-in_default-clause-loads : goal.returns-in_default-clause-loads
returns-in_default-clause-loads g c = loads_none _ _ c.requires.fresh c.requires.none
