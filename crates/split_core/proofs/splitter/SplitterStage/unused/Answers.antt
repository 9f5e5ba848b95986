use Rattle.split_core.proofs.{AlikeLemmas.unused_as, ChunkerWays.chunks_spare, RoundLemmas.never_done}
use Rattle.engine_core.proofs.SpareLemmas.{all_used}
use Rattle.split_core.proofs.splitter.SplitterStage.unused.Goals as goal

pub returns-in_default : goal.returns-in_default
returns-in_default c x holds = all_used _ x (never_done _ c.in_default.not-Chunks x holds)

pub returns : goal.returns
returns c = rw (c.in-Chunks.is, c.past.ensures) (λ x is. unused_as is.alike (chunks_spare _ _ is.holds))
