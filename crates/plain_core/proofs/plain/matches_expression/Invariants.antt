use Rattle.std.proofs.Common.{drop}
use Rattle.plain_core.proofs.Tables.{GoneOver}
use Rattle.plain_core.proofs.plain.matches_expression.Given as goal

abbrev pub invariant-loop-token : goal.invariant-loop-token
invariant-loop-token l = GoneOver l.line l.token-items (drop l.token-index l.token-items) l.plain
