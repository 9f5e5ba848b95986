use Rattle.split_core.proofs.DealLemmas.{appended}
use Rattle.split_core.proofs.deal.append_to.Goals as goal

pub returns-clause-ok : goal.returns-clause-ok
returns-clause-ok c = appended _ _ _ _ _ c.requires.within c.index_mut.ensures.value c.append.ensures
