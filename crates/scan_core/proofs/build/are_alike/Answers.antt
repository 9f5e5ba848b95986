use Rattle.scan_core.proofs.Searchings.{alike_below, alike_all}
use Rattle.scan_core.proofs.build.are_alike.Goals as goal

pub loop-number-preserved : goal.loop-number-preserved
loop-number-preserved c = alike_below _ _ _ _ c.loop-number.invariant c.index-nodes-number.is c.loop-number-test.true
    (λ bytes e. c.tells_apart.ensures c.if-tells_apart.false bytes e)

pub returns : goal.returns
returns c = λ t. alike_all _ c.loop-number-test.false c.loop-number.invariant
