use Rattle.std.proofs.Common.{arith, suc, ◌+◌}
use Rattle.plain_core.proofs.Tables.{any_all}
use Rattle.plain_core.proofs.table.repeated_at.Goals as goal

pub returns : goal.returns
returns c = any_all c.loop-count.count (suc (c.args.low + c.args.to)) _ (omega arith) c.loop-count.invariant
