use Rattle.std.proofs.Common.{Some, ap}
use Rattle.plain_core.proofs.Tables.{closed_is}
use Rattle.plain_core.proofs.plain.Plain.take.Goals as goal

pub returns-in_ok-settle-in-Close-clause-ok : goal.returns-in_ok-settle-in-Close-clause-ok
returns-in_ok-settle-in-Close-clause-ok c = λ current around means.
    rw c.in-Close.is (closed_is current around _ _ means c.in-Some.ensures.items (c.in_ok-settle-in-Close.ensures.before current means.frame)
    (ap (λ tables. tables.items) c.in_ok-settle-in-Close.ensures.around) c.replace-inner.ensures.after (ap Some c.replace-inner.ensures.value))
