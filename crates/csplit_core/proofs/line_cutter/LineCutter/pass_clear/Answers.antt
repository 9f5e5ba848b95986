use Rattle.csplit_core.proofs.LineLemmas.{whole_count}
use Rattle.std.proofs.lemmas.List.{length-take-le}
use Rattle.seg_core.proofs.Delimiters.{delimiters-le-length}
use Rattle.std.proofs.Common.{rules}
use Rattle.csplit_core.proofs.line_cutter.LineCutter.pass_clear.Goals as goal

pub overflow_add-self : goal.overflow_add-self
overflow_add-self c = search (rules, delimiters-le-length, length-take-le)

pub returns : goal.returns
returns c = search (rules, whole_count)
