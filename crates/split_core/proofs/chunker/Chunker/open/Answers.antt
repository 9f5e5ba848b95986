use Rattle.split_core.{proofs.FreshLemmas.holds_none}
use Rattle.split_core.proofs.chunker.Chunker.open.Goals as goal

pub returns-clause-holds : goal.returns-clause-holds
returns-clause-holds c = holds_none _ _ c.requires.can c.requires.all c.requires.fresh c.args.said
    c.new.result c.new.ensures c.requires.long
