use Rattle.std.proofs.Common.{[]}
use Rattle.ports_core.specs.{Streams.{standard_error, standard_output}, declared.reason.Reason.TheVariants.Other}
use Rattle.tools_core.specs.About.{no_text}
use Rattle.tools_core.proofs.about.tell_about.Goals as goal

pub returns-in-Ok : goal.returns-in-Ok
returns-in-Ok g c = rw (c.deref.ensures.value, c.in-Ok.ensures.ok, c.by.ensures) at c.tell_text.ensures

pub returns-in-Err : goal.returns-in-Err
returns-in-Err g c =
    let tells = rw c.by-in-Err.ensures at c.tell.ensures in
    let is = c.in-Err.ensures.err in
    let (after, says, slots) = tells.told standard_output standard_error [] c.requires in
    no_text after (Other, rw is at says) slots (rw is at tells.status)
