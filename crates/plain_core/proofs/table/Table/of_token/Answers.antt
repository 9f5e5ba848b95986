use Rattle.std.proofs.Common.{rules}
use Rattle.plain_core.proofs.table.Table.of_token.Goals as goal

pub returns-clause-ok : goal.returns-clause-ok
returns-clause-ok c = record { exact = λ from to h k. let made = c.in_ok-table_of.ensures.ok from to h k in search rules }
