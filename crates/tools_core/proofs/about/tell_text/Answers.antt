use Rattle.std.proofs.Common.{◌∙◌, ap}
use Rattle.ports_core.specs.declared.fault.Fault.TheVariants.{Write}
use Rattle.tools_core.proofs.RunLemmas.{text_broke}
use Rattle.tools_core.proofs.about.tell_text.Goals as goal

pub returns-in-Err : goal.returns-in-Err
returns-in-Err g c =
    text_broke c.args.text.now c.in-Err.cut.written c.requires c.in-Err.ensures.cut
    (c.from.ensures ∙ ap Write c.in-Err.ensures.slot) c.tell.ensures.told c.tell.ensures.status
