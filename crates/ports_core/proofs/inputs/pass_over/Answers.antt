use Rattle.std.proofs.Common.{arith, ◌<◌, ◌^◌}
use Rattle.ports_core.proofs.InputsLemmas.{passes_if, passes_none}
use Rattle.ports_core.proofs.inputs.pass_over.Goals as goal

pub returns-then-count-most-clause-passes : goal.returns-then-count-most-clause-passes
returns-then-count-most-clause-passes g c = passes_none _ _ tt

pub returns-then-unwrap_or-count-clause-passes : goal.returns-then-unwrap_or-count-clause-passes
returns-then-unwrap_or-count-clause-passes g c = rw c.shown.ensures.same (passes_none _ _ tt)

pub returns-clause-passes : goal.returns-clause-passes
returns-clause-passes g c =
    let few : c.args.count < 2 ^ 63 = omega arith in
    rw (← c.shown.ensures.same) (passes_if _ _
    (rw c.shown.ensures.same c.requires.input) c.skip.ensures.there few c.skip.ensures.rest c.skip.ensures.unchanged)
