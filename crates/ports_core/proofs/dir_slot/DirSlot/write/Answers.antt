use Rattle.std.proofs.Common.{◌∙◌, ap}
use Rattle.ports_core.specs.Slot.{breaks}
use Rattle.ports_core.proofs.dir_slot.DirSlot.write.Goals as goal

pub returns-in_default-file-clause-broke : goal.returns-in_default-file-clause-broke
returns-in_default-file-clause-broke g c = c.break_off-in_default-file.ensures ∙ ap (breaks _) c.self.view_is
