use Rattle.std.proofs.{Common.{refl, ◌+◌}, lemmas.List.take_rest}
use Rattle.split_core.proofs.DealLemmas.{sees_further}
use Rattle.split_core.proofs.complete_lines.find.Goals as goal

pub blocks-2-preserved : goal.blocks-2-preserved
blocks-2-preserved c = sees_further _ c.blocks-2.invariant c.blocks-2-test.true refl c.min.ensures
    (rw (take_rest c.args.text.now (c.blocks-2.ahead.passed + c.blocks-2.ahead.width)) at c.mask_of.ensures)
