use Rattle.std.proofs.Common.{List, set, ap, ◌∙◌}
use Rattle.ports_core.specs.Source.{Source, skips}
use Rattle.mem_core.{specs.MemInState.{MemInState}, proofs.MemInLemmas.{source_changes}}
use Rattle.mem_core.proofs.mem_in.MemInInputs.skip.Goals as goal

pub returns-clause-rest : goal.returns-clause-rest
returns-clause-rest c can =
    ap (λ (state : MemInState). record state { sources = set c.self.inside.sources.items c.args.slot c.skip.new.self }) c.self.view_is
    ∙ ap (λ (those : List Source). record c.args.self.now { sources = those })
    (source_changes c.args.slot (skips c.args.count) c.self.view_is c.requires c.index_mut.ensures.value (c.skip.ensures.rest can))
