use Rattle.std.proofs.Common.{◌∙◌, ap, refl}
use Rattle.ports_core.proofs.HandedOn.{fault_is}
use Rattle.engine_core.proofs.WrittenLemmas.{nothing_begins_part, stopped_here}
use Rattle.split_core.{specs.FilesState.filing_in, proofs.RoundLemmas.{does_all, opens_cut, opens_so}}
use Rattle.split_core.proofs.round_splitter.RoundSplitter.open.Goals as goal

pub returns-in_err-deal-clause-cut : goal.returns-in_err-deal-clause-cut
returns-in_err-deal-clause-cut g c = fault_is _ _ _ c.from_residual.ensures.1
    (λ before at. stopped_here _ _ _ _ _ _ _ _ at (nothing_begins_part _) refl tt tt)

pub returns-in_err-open_first-clause-cut : goal.returns-in_err-open_first-clause-cut
returns-in_err-open_first-clause-cut g c = fault_is _ _ _ c.from_residual-in_err-open_first.ensures.1
    (λ before at. opens_cut _ _ c.args.delim _ _ c.new-files.ensures c.requires.enough c.opened_at_start.ensures at
    c.in_err-open_first.ensures)

pub returns-clause-outputs : goal.returns-clause-outputs
returns-clause-outputs g c before at = opens_so _ _ c.args.delim _ _ c.new-files.ensures c.requires.enough
    c.opened_at_start.ensures at c.in_ok-open_first.ensures

pub returns-clause-does : goal.returns-clause-does
returns-clause-does g c = rw (c.in_ok-deal.ensures.delim, c.in_ok-deal.ensures.count)
    (does_all _ _ _ _ _ c.requires.enough (c.in_ok-open_first.ensures.adds.filing ∙ ap filing_in c.new-files.ensures))
