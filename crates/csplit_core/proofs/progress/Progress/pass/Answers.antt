use Rattle.std.proofs.Common.{◌∙◌, refl, sym}
use Rattle.csplit_core.proofs.TryLemmas.{passes_on}
use Rattle.csplit_core.proofs.progress.Progress.pass.Goals as goal

pub returns : goal.returns
returns c operands rest are =
    passes_on c.args.suppress operands c.args.self.now.done c.args.self.now.repetition c.args.cut are (sym c.has_more.ensures ∙ c.if-has_more.false) c.line_after-self.ensures refl
