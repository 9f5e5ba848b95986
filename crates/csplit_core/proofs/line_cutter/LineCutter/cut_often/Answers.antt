use Rattle.std.proofs.{Common.{arith, rules, length-append, ◌++◌}}
use Rattle.ports_core.{proofs.HandedOn.fault_is}
use Rattle.csplit_core.{proofs.TakeLemmas.{spread_more, spread_sizes, spread_stopped}}
use Rattle.csplit_core.proofs.line_cutter.LineCutter.cut_often.Goals as goal

pub returns-in_err-left-clause-err : goal.returns-in_err-left-clause-err
returns-in_err-left-clause-err g c = fault_is _ _ _ c.from_residual.ensures.1 (c.in_err-left.ensures.err c.args.line.now)

pub loop-cut-init : goal.loop-cut-init
loop-cut-init g c = (c.in_ok-left.ensures.ok c.args.line.now).spreading

pub try_last-requires-clause-few : goal.try_last-requires-clause-few
try_last-requires-clause-few g c = omega arith

pub try_last-requires-clause-fit : goal.try_last-requires-clause-fit
try_last-requires-clause-fit g c = c.loop-cut.invariant.fit

pub cut_at-requires-in-Some-clause-fits : goal.cut_at-requires-in-Some-clause-fits
cut_at-requires-in-Some-clause-fits g c = omega (
  arith,
  spread_sizes c.loop-cut.invariant c.try_last.ensures.same c.in-Some.ensures.tries c.in-Some.ensures.cuts
      c.saturating_sub.ensures c.split_lines.ensures.first c.split_lines.ensures.rest,
  c.requires.fits,
  length-append c.args.self.now.window.held c.args.before.now,
  length-append (c.args.self.now.window.held ++ c.args.before.now) c.args.rest.now,
)

pub returns-in_err-left-2-clause-err : goal.returns-in_err-left-2-clause-err
returns-in_err-left-2-clause-err g c = fault_is _ _ _ c.from_residual-in_err-left-2.ensures.1
    (spread_stopped c.loop-cut.invariant c.try_last.ensures.same c.in-Some.ensures.tries c.in-Some.ensures.cuts
    c.saturating_sub.ensures c.split_lines.ensures.first c.split_lines.ensures.rest (c.in_err-left-2.ensures.err c.args.line.now))

pub loop-cut-smaller : goal.loop-cut-smaller
loop-cut-smaller g c = let one = c.in_ok-left-2.ensures.ok c.args.line.now in search (rules, one.fewer)

pub loop-cut-preserved : goal.loop-cut-preserved
loop-cut-preserved g c = spread_more c.loop-cut.invariant c.try_last.ensures.same c.in-Some.ensures.tries c.in-Some.ensures.cuts
    c.saturating_sub.ensures c.split_lines.ensures.first c.split_lines.ensures.rest (c.in_ok-left-2.ensures.ok c.args.line.now)

pub returns-clause-ok : goal.returns-clause-ok
returns-clause-ok g c = search rules
