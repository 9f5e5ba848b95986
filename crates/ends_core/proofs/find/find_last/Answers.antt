use Rattle.std.proofs.Common.{◌∙◌, sym}
use Rattle.ends_core.proofs.FindLemmas.{found_bytes}
use Rattle.ends_core.proofs.find.find_last.Goals as goal

pub returns-in-Bytes-clause-found : goal.returns-in-Bytes-clause-found
returns-in-Bytes-clause-found g c =
    rw (c.in-Bytes.is, c.saturating_sub.ensures)
    (found_bytes g.I.Inputs.visible c.args.delim c.args.count (λ visible. sym c.in-Some.is ∙ c.shown.ensures.counted visible))
