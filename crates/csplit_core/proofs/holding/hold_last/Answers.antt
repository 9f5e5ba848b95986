use Rattle.ports_core.proofs.HandedOn.{handed_on}
use Rattle.engine_core.proofs.WriterSteps.{goes_as, goes_or_lacks, stops_among}
use Rattle.std.proofs.{Common.{arith}, lemmas.Grind.common_steps}
use Rattle.csplit_core.proofs.CutterLemmas.{hold_on, kept_window, parted, rest_fits}
use Rattle.csplit_core.proofs.holding.hold_last.Goals as goal

pub returns-in_err-write_front-clause-goes : goal.returns-in_err-write_front-clause-goes
returns-in_err-write_front-clause-goes g c = rw (handed_on _ _ c.from_residual.ensures.1)
    (let parts = parted {delim = c.args.window.now.delim} {most = c.args.window.now.most} c.over-over.ensures c.len.ensures.len
    c.min-front.ensures in goes_as parts.goes (stops_among _ _ c.in_err-write_front.ensures.goes))

pub split_at-requires : goal.split_at-requires
split_at-requires g c = let parts =
    parted {delim = c.args.window.now.delim} {most = c.args.window.now.most} c.over-over.ensures c.len.ensures.len c.min-front.ensures in parts.within

pub returns-in_err-put-clause-goes : goal.returns-in_err-put-clause-goes
returns-in_err-put-clause-goes g c = rw (handed_on _ _ c.from_residual-in_err-put.ensures.1)
    (hold_on (parted c.over-over.ensures c.len.ensures.len c.min-front.ensures) c.split_at.ensures.front
    c.in_ok-write_front.ensures.goes c.in_err-put.ensures.goes)

pub keep-requires : goal.keep-requires
keep-requires g c = grind (arith, common_steps, rest_fits, parted)

pub returns-clause-goes : goal.returns-clause-goes
returns-clause-goes g c = goes_or_lacks c.keep.result
    (hold_on (parted c.over-over.ensures c.len.ensures.len c.min-front.ensures) c.split_at.ensures.front
    c.in_ok-write_front.ensures.goes c.in_ok-put.ensures.goes)
    c.keep.ensures.err

pub returns-clause-window : goal.returns-clause-window
returns-clause-window g c = kept_window c.keep.new.window c.keep.result
    (parted c.over-over.ensures c.len.ensures.len c.min-front.ensures) c.in_ok-write_front.ensures.window
    (rw c.split_at.ensures.back at c.keep.ensures.ok)

pub returns-clause-size : goal.returns-clause-size
returns-clause-size g c = grind (arith, common_steps)
