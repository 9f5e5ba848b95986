use Rattle.std.proofs.Common.{◌∙◌, sym}
use Rattle.ports_core.proofs.MessageLemmas.{told_aloud}
use Rattle.ports_core.proofs.messages.tell.Goals as goal
use Rattle.ports_core.specs.Text.{message_of}

pub returns : goal.returns
returns g c =
    let why = c.output_reason-why.ensures in
    let loud = rw why at (sym c.is_quiet.ensures ∙ c.if-is_quiet.false) in
    let says = rw (c.output_name.ensures, why) at (c.say_line.ensures _ (message_of c.args.fault.now _) c.message_for-line.ensures.ok) in
    let (told, status) = told_aloud g.O.Outs.visible c.args.fault.now loud says in
    record { told = told; status = status }
