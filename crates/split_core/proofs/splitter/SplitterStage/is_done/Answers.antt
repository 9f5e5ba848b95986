use Rattle.std.proofs.Common.{◌∙◌, sym}
use Rattle.split_core.proofs.{AlikeLemmas.complete_as, RoundLemmas.never_done}
use Rattle.split_core.proofs.splitter.SplitterStage.is_done.Goals as goal

pub returns-in_default : goal.returns-in_default
returns-in_default c x holds = sym (never_done _ c.in_default.not-Chunks x holds)

pub returns : goal.returns
returns c = rw c.in-Chunks.is (λ x is. c.is_complete.ensures is.other is.holds ∙ sym (complete_as is.alike))
