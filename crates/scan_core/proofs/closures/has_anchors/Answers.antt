use Rattle.std.proofs.Common.{arith}
use Rattle.scan_core.proofs.{Closings.plain_more, Enterings.at_least}
use Rattle.scan_core.proofs.closures.has_anchors.Goals as goal

pub loop-number-preserved : goal.loop-number-preserved
loop-number-preserved c = plain_more _ c.index-nodes-number.is c.loop-number-test.true (c.is_anchor.ensures c.if-is_anchor.false) c.loop-number.invariant

pub returns : goal.returns
returns c = λ none number at_first at_last to f.
    c.loop-number.invariant number (omega (arith, at_least c.args.nodes.now number f.0 f.1, c.loop-number-test.false)) at_first at_last to f
