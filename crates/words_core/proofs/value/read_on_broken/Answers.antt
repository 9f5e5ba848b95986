use Rattle.std.proofs.Common.{ap, ok_or, ◌∙◌}
use Rattle.ports_core.specs.declared.fault.UsageKind.TheVariants.{BadMode}
use Rattle.words_core.proofs.value.read_on_broken.Goals as goal

pub returns : goal.returns
returns c = c.ok_or.ensures.value ∙ ap (λ found. ok_or found BadMode) c.find_value.ensures
