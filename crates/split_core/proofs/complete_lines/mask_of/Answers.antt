use Rattle.std.proofs.Common.{◌∙◌, arith}
use Rattle.split_core.proofs.DealLemmas.{mask_of_padded}
use Rattle.split_core.proofs.complete_lines.mask_of.Goals as goal

pub returns : goal.returns
returns c = c.mask_of_step-2.ensures ∙ mask_of_padded _ _ _ (omega arith) (omega arith)
    (omega arith) c.padded.ensures
