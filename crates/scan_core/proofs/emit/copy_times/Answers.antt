use Rattle.std.proofs.{Common.arith, lemmas.Grind.common_steps}
use Rattle.scan_core.proofs.Emitting.{copies_more}
use Rattle.scan_core.proofs.emit.copy_times.Goals as goal

pub copy-requires : goal.copy-requires
copy-requires c = grind (arith, common_steps)

pub loop-done-preserved : goal.loop-done-preserved
loop-done-preserved c = copies_more c.args.nodes.now.items c.args.from c.args.size c.loop-done._done c.loop-done.invariant c.requires c.in_ok-copy.ensures.ok
