use Rattle.std.proofs.{Common.{refl, arith}, lemmas.Result.on_ok_weaker}
use Rattle.scan_core.proofs.Emitting.{starred_out}
use Rattle.scan_core.proofs.emit.write_starred.Goals as goal

pub returns-clause-ok : goal.returns-clause-ok
returns-clause-ok c = on_ok_weaker c.copy_times.result
    (λ e before code b n. starred_out before code c.args.low b n (omega arith) refl c.in_ok-choose.ensures.ok e) c.copy_times.ensures.ok
