use Rattle.std.proofs.Common.{arith, ap}
use Rattle.ports_core.proofs.HandedOn.{handed_on}
use Rattle.csplit_core.proofs.{
  StretchLemmas.{before_in, end_within, goes_on, held_cuts, held_fails, left_is, line_cut, line_fails, line_kept},
  StretchLemmas.{parts_in, short_of, some_next, well_of},
  TakeLemmas.spread_all,
}
use Rattle.csplit_core.specs.Cutter.{CutterState}
use Rattle.csplit_core.proofs.line_cutter.LineCutter.take_next.Goals as goal

pub pass_on-requires-clause-place : goal.pass_on-requires-clause-place
pass_on-requires-clause-place g c = goes_on c.requires.within c.requires.start
    (c.first_waiting-from.ensures.within (let low = c.requires.within.from in omega arith))

pub returns-in_default : goal.returns-in_default
returns-in_default g c = line_kept c.requires.within c.requires.start c.requires.live c.try_line.ensures.same
    (record { fit = c.try_line.ensures.fit; aim = c.in_default.ensures.aim })
    c.in_default.ensures.tries
    c.first_waiting-from.ensures.all c.first_waiting-from.ensures.none c.pass_on.ensures (some_next c.requires.start)

pub returns-in_err-cut_held : goal.returns-in_err-cut_held
returns-in_err-cut_held g c = rw (handed_on _ _ c.from_residual.ensures.1)
    (held_fails c.requires.within c.requires.start c.requires.live c.try_line.ensures.same
    c.in-Some.ensures.tries
    (short_of c.in_err-cut_held.ensures))

pub pass_on-requires-then-place-eq0-clause-place : goal.pass_on-requires-then-place-eq0-clause-place
pass_on-requires-then-place-eq0-clause-place g c = goes_on c.requires.within c.requires.start (omega arith)

pub pass_on-requires-then-place-eq0-clause-lines : goal.pass_on-requires-then-place-eq0-clause-lines
pass_on-requires-then-place-eq0-clause-lines g c = let lines = (well_of c.in_ok-cut_held.ensures).lines in omega (
  arith,
  lines,
  ap (λ (cutter : CutterState). cutter.lines) c.try_line.ensures.same,
  some_next c.requires.start,
  end_within c.requires.within c.requires.start,
  c.requires.lines,
)

pub pass_on-requires-then-place-eq0-clause-sound : goal.pass_on-requires-then-place-eq0-clause-sound
pass_on-requires-then-place-eq0-clause-sound g c = (well_of c.in_ok-cut_held.ensures).sound

pub returns-then-place-eq0 : goal.returns-then-place-eq0
returns-then-place-eq0 g c = held_cuts c.requires.within c.requires.start c.requires.live c.try_line.ensures.same
    c.in-Some.ensures.tries
    (well_of c.in_ok-cut_held.ensures)
    c.pass_on-then-place-eq0.ensures (some_next c.requires.start)

pub returns-in_err-left : goal.returns-in_err-left
returns-in_err-left g c = rw (handed_on _ _ c.from_residual-in_err-left.ensures.1)
    (line_fails c.requires.within c.requires.start c.requires.live c.try_line.ensures.same
    c.in-Some.ensures.tries
    (parts_in c.try_line.new.self.window.held _ c.before_last-place.result c.split_at.ensures.front c.split_at.ensures.back)
    (before_in c.try_line.new.self.window.held _ c.before_last-place.result c.split_at.ensures.front c.saturating_sub.ensures (c.before_last-place.ensures.after (omega (arith, c.if-place-eq0.false)) c.try_line.new.self.window.held))
    c.in_err-left.ensures.err)

pub pass_on-requires-2-clause-place : goal.pass_on-requires-2-clause-place
pass_on-requires-2-clause-place g c = goes_on c.requires.within c.requires.start (omega arith)

pub returns : goal.returns
returns g c = line_cut c.requires.within c.requires.start c.requires.live c.try_line.ensures.same
    c.in-Some.ensures.tries
    (parts_in c.try_line.new.self.window.held _ c.before_last-place.result c.split_at.ensures.front c.split_at.ensures.back)
    (before_in c.try_line.new.self.window.held _ c.before_last-place.result c.split_at.ensures.front c.saturating_sub.ensures (c.before_last-place.ensures.after (omega (arith, c.if-place-eq0.false)) c.try_line.new.self.window.held))
    (spread_all c.in_ok-left.ensures.ok)
    (left_is c.requires.within c.requires.start c.before_last-place.result c.split_at.ensures.back c.in_ok-left.ensures.ok.so_far.end)
    c.pass_on-2.ensures (some_next c.requires.start)
