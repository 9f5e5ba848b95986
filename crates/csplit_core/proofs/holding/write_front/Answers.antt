use Rattle.ports_core.proofs.HandedOn.{handed_on}
use Rattle.engine_core.proofs.{FileWriterLemmas.can_count, WriterSteps.goes_as}
use Rattle.std.proofs.{Common.{arith}, lemmas.Grind.common_steps}
use Rattle.csplit_core.proofs.{CutterLemmas.{all_held, empties, empties_short}}
use Rattle.csplit_core.proofs.holding.write_front.Goals as goal

pub loop-left-init : goal.loop-left-init
loop-left-init g c = all_held c.requires.ready

pub put-requires-clause-ready : goal.put-requires-clause-ready
put-requires-clause-ready g c = c.loop-left.invariant.went.leaves.ready

pub put-requires-clause-fits : goal.put-requires-clause-fits
put-requires-clause-fits g c = can_count _ _ _ (grind (arith, common_steps))

pub returns-in_err-put-clause-goes : goal.returns-in_err-put-clause-goes
returns-in_err-put-clause-goes g c = rw (handed_on _ _ c.from_residual.ensures.1)
    (empties_short c.loop-left.invariant c.min-bytes.result c.front-front.result.now _ c.front-front.ensures.front.1
    (omega arith) (omega arith) c.in_err-put.ensures.goes)

pub drop_front-requires : goal.drop_front-requires
drop_front-requires g c = grind (arith, common_steps)

pub loop-left-smaller : goal.loop-left-smaller
loop-left-smaller g c = grind (arith, common_steps)

pub loop-left-preserved : goal.loop-left-preserved
loop-left-preserved g c =
    empties c.loop-left.invariant c.min-bytes.result c.front-front.result.now _ c.front-front.ensures.front.1
    (omega arith) (omega arith) c.drop_front.ensures c.in_ok-put.ensures.goes c.in_ok-put.ensures.size

pub returns-clause-goes : goal.returns-clause-goes
returns-clause-goes g c = goes_as (grind (arith, common_steps)) c.loop-left.invariant.went

pub returns-clause-window : goal.returns-clause-window
returns-clause-window g c = grind (arith, common_steps)

pub returns-clause-size : goal.returns-clause-size
returns-clause-size g c = c.loop-left.invariant.size
