use Rattle.std.proofs.Common.{rules}
use Rattle.plain_core.proofs.Tables.{joined_is}
use Rattle.plain_core.proofs.table.Table.with_after.Goals as goal

pub returns-clause-ok : goal.returns-clause-ok
returns-clause-ok c = λ first second one other. joined_is one other (λ from to h k. let made = c.in_ok-table_of.ensures.ok from to h k in search rules)
