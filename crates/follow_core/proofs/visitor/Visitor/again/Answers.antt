use Rattle.std.proofs.Common.{ap}
use Rattle.watch_core.specs.Snapshot.{latest}
use Rattle.follow_core.proofs.CatchLemmas.{caught_looks, led_looks, stopped_looks}
use Rattle.follow_core.proofs.visitor.Visitor.again.Goals as goal

pub returns-in-Err-clause-looks : goal.returns-in-Err-clause-looks
returns-in-Err-clause-looks g c = stopped_looks c.args.by_name c.in-Err.ensures.adds

pub returns-then-not-by_name-clause-looks : goal.returns-then-not-by_name-clause-looks
returns-then-not-by_name-clause-looks g c = caught_looks c.if-not-by_name.true c.in-Ok.ensures.adds

pub returns-clause-looks : goal.returns-clause-looks
returns-clause-looks g c =
    led_looks c.if-not-by_name.false (ap latest c.catch_up.ensures.seen) c.in-Ok.ensures.adds c.follow_name.ensures.leads
