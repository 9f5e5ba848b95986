use Rattle.std.proofs.Common.{ap, ok_or, ◌∙◌}
use Rattle.ports_core.specs.declared.fault.UsageKind.TheVariants.{BadFollow}
use Rattle.words_core.proofs.value.read_followed.Goals as goal

pub returns : goal.returns
returns c = c.ok_or.ensures.value ∙ ap (λ found. ok_or found BadFollow) c.find_value.ensures
