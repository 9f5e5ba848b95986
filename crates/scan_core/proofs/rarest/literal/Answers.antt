use Rattle.std.proofs.Common.{◌∷◌, [], length, refl, ap, ◌∙◌, arith, length-append}
use Rattle.scan_core.proofs.{Enterings.node_here, Needles.literal_more}
use Rattle.scan_core.proofs.rarest.literal.Goals as goal

pub loop-at-preserved : goal.loop-at-preserved
loop-at-preserved c =
    let here = node_here _ c.loop-at-test.true refl c.index-nodes-at.is in
    let items = c.in_ok-push.ensures.items in
    let long = ap length items ∙ length-append c.loop-at.text.items (c.in-Some.byte ∷ []) in
    record {
      all = omega arith;
      literal = rw (← items) at (literal_more _ _ _ _ _ c.loop-at.invariant.all c.loop-at.invariant.literal here c.in-Some.ensures);
    }
