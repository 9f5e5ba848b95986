use Rattle.split_core.proofs.RoundLemmas.{all_named, goes_on}
use Rattle.split_core.proofs.laws.all_files_have_names.Goals as goal

pub returns-clause-named : goal.returns-clause-named
returns-clause-named c engine x holds judged = all_named _ x holds.within judged

pub returns-clause-goes_on : goal.returns-clause-goes_on
returns-clause-goes_on c engine x holds beside = goes_on _ x holds.within beside
