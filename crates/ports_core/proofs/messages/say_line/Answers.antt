use Rattle.std.proofs.Common.{◌∙◌, inl, inr}
use Rattle.ports_core.proofs.MessageLemmas.{says_on}
use Rattle.ports_core.proofs.messages.say_line.Goals as goal

pub returns-in-Ok : goal.returns-in-Ok
returns-in-Ok g c why message is = says_on _ _ (inl (c.deref.ensures.value ∙ rw c.in-Ok.is at is)) c.print.ensures

pub returns-in-Err : goal.returns-in-Err
returns-in-Err g c why message is = says_on _ _ (inr (c.memory_exhausted.ensures c.args.speaker.calling why)) c.print-in-Err.ensures
