use Rattle.std.proofs.{lemmas.Bool.Decides.nat_tests, Common.{◌∙◌, ap, arith}}
use Rattle.ports_core.specs.Source.{skips}
use Rattle.mem_core.proofs.MemInLemmas.{skipped}
use Rattle.mem_core.proofs.mem_in.MemSource.skip.Goals as goal

pub returns-clause-rest : goal.returns-clause-rest
returns-clause-rest c can =
    let s = c.self.inside in
    skipped _ _ s.bytes.items s.given c.args.count _ _ s.last _ _ _ _ _ (grind (arith, nat_tests))
    ∙ ap (skips c.args.count) c.self.view_is
