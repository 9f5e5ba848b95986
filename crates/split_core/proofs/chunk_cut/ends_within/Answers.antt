use Rattle.std.proofs.Common.{sym}
use Rattle.split_core.proofs.CutterLemmas.{within_by}
use Rattle.split_core.proofs.chunk_cut.ends_within.Goals as goal

pub returns-in-Lines : goal.returns-in-Lines
returns-in-Lines c = rw c.in-Lines.is (sym (within_by _ _ c.requires))
