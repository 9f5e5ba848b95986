use Rattle.scan_core.proofs.Enterings.{each_more}
use Rattle.scan_core.proofs.masks.masks_of.Goals as goal

pub loop-place-preserved : goal.loop-place-preserved
loop-place-preserved c = each_more c.loop-place.invariant c.word_of.ensures c.in_ok-push.ensures.items

pub loop-at-preserved : goal.loop-at-preserved
loop-at-preserved c = each_more c.loop-at.invariant c.word_of-in-loop-at.ensures c.in_ok-push-2.ensures.items
