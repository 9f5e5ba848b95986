use Rattle.std.proofs.Common.{arith}
use Rattle.ports_core.{proofs.FormLemmas.below_more}
use Rattle.ports_core.proofs.form.Form.digits.Goals as goal

pub returns-clause-enough : goal.returns-clause-enough
returns-clause-enough c = below_more _ (rw c.alphabet.ensures at c.digit_count.ensures.enough) (omega arith)
