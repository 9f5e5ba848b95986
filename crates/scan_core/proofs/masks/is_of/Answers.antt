use Rattle.std.proofs.Common.{◌+◌}
use Rattle.scan_core.proofs.masks.is_of.Goals as goal

pub returns-in-Takes : goal.returns-in-Takes
returns-in-Takes c = rw c.in-Takes.is (c.passes.ensures.yes, c.passes.ensures.no (c.args.number + 1))
