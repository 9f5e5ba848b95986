use Rattle.ports_core.proofs.HandedOn.{handed_on}
use Rattle.engine_core.proofs.{FileWriterLemmas.well_in, WriterSteps.goes_lacking}
use Rattle.std.proofs.{Common.{refl, ◌∙◌, arith, []}}
use Rattle.csplit_core.{
  specs.inner.Cutter.{held_short, held_well},
  proofs.{CutterLemmas.{cut_put_stopped, hold_goes}, TakeLemmas.{cut_drained, held_cut, spread_cut, spread_fit}},
}
use Rattle.csplit_core.proofs.line_cutter.LineCutter.cut_held.Goals as goal

pub returns-in_err-all : goal.returns-in_err-all
returns-in_err-all g c = rw (handed_on _ _ c.from_residual.ensures.1)
    (held_short _ (cut_put_stopped c.requires.fit c.requires.cuts refl refl
    (goes_lacking c.requires.ready c.in_err-all.ensures.err)))

pub returns-in_err-left : goal.returns-in_err-left
returns-in_err-left g c = rw (handed_on _ _ c.from_residual-in_err-left.ensures.1)
    (cut_drained c.before_last-place.result c.args.text.now c.in_ok-all.ensures.window (c.deref-2.ensures.value ∙ c.in_ok-all.ensures.ok)
    (c.deref.ensures.value ∙ c.in_ok-all.ensures.ok) c.saturating_sub.ensures c.split_at.ensures.front c.split_at.ensures.back
    c.before_last-place.ensures.before (held_short _ c.in_err-left.ensures.err))

pub returns-then-is_past : goal.returns-then-is_past
returns-then-is_past g c = cut_drained c.before_last-place.result c.args.text.now c.in_ok-all.ensures.window (c.deref-2.ensures.value ∙ c.in_ok-all.ensures.ok)
    (c.deref.ensures.value ∙ c.in_ok-all.ensures.ok) c.saturating_sub.ensures c.split_at.ensures.front c.split_at.ensures.back
    c.before_last-place.ensures.before
    (held_well (spread_cut [] c.in_ok-left.ensures.ok (λ other. absurd (other (c.is_past.ensures.past c.if-is_past.true))) (omega arith)))

pub returns : goal.returns
returns g c = let differs = c.is_past.ensures.live c.if-is_past.false in
    cut_drained c.before_last-place.result c.args.text.now c.in_ok-all.ensures.window (c.deref-2.ensures.value ∙ c.in_ok-all.ensures.ok)
    (c.deref.ensures.value ∙ c.in_ok-all.ensures.ok) c.saturating_sub.ensures c.split_at.ensures.front c.split_at.ensures.back
    c.before_last-place.ensures.before (held_cut _ c.in_ok-left.ensures.ok differs
    (hold_goes (spread_fit c.in_ok-left.ensures.ok.is c.in_ok-left.ensures.ok.so_far.fit) differs c.hold_last.ensures.goes
    (well_in _ c.hold_last.result c.hold_last.ensures.window) (well_in _ c.hold_last.result c.hold_last.ensures.size)))
