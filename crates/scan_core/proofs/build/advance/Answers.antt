use Rattle.scan_core.proofs.Searchings.{advanced}
use Rattle.scan_core.proofs.build.advance.Goals as goal

pub returns-clause-exact : goal.returns-clause-exact
returns-clause-exact c = advanced _ c.requires.closures.base
    (rw c.deref.ensures.value at c.pass.ensures.exact)
    c.spread.ensures
