use Rattle.std.proofs.Common.{◌∙◌, arith}
use Rattle.scan_core.proofs.Needles.{is_text_needle}
use Rattle.scan_core.proofs.rarest.needle_from.Goals as goal

pub returns-then-len-ge2-clause-ok : goal.returns-then-len-ge2-clause-ok
returns-then-len-ge2-clause-ok c = is_text_needle _ c.requires c.in_ok-text.ensures.ok
    (c.in_ok-finder.ensures ∙ c.new.ensures ∙ c.deref.ensures.value) (omega arith)
