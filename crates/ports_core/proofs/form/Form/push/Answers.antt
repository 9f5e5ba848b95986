use Rattle.std.proofs.{Common.{arith, append_assoc, length-append}, lemmas.Result.IfOk-weaker}
use Rattle.ports_core.proofs.form.Form.push.Goals as goal
use Rattle.ports_core.proofs.FormLemmas.{after, before, length_written}

pub returns-in_ok-push_copies-in-BlanksBefore : goal.returns-in_ok-push_copies-in-BlanksBefore
returns-in_ok-push_copies-in-BlanksBefore c = grind (arith, IfOk-weaker, append_assoc, before, length-append, length_written)

pub returns-in_ok-push_marked-in-BlanksAfter : goal.returns-in_ok-push_marked-in-BlanksAfter
returns-in_ok-push_marked-in-BlanksAfter c = grind (arith, IfOk-weaker, length-append, length_written, append_assoc, after)
