use Rattle.std.proofs.Common.{inl, inr, refl, length, sym, ap, ◌∙◌, arith}
use Rattle.seg_core.specs.Line.{LinesLeft}
use Rattle.split_core.{specs.inner.Dealt.DealState, proofs.DealLemmas.{ended, line_more, ends_open}}
use Rattle.ports_core.proofs.CounterLemmas.{no_length}
use Rattle.std.proofs.lemmas.Bool.{eqb-true}
use Rattle.split_core.proofs.deal.Deal.gather.Goals as goal

pub lines-preserved-then-next-count : goal.lines-preserved-then-next-count
lines-preserved-then-next-count c = (
  line_more c.lines.invariant.0 _ _ (rw c.lines.invariant.2 at c.in-Some.ensures.some) c.lines.invariant.1 c.in_ok-append_to.ensures.ok
      (inl (refl, omega (arith, ap (λ (deal : DealState). length deal.gathered) c.self.view_is))) (omega arith),
  c.rest-left.ensures,
  c.next.ensures.same ∙ c.lines.invariant.2,
  c.lines.invariant.3,
  c.lines.invariant.4,
)

pub lines-preserved : goal.lines-preserved
lines-preserved c =
    let count = ap (λ (deal : DealState). length deal.gathered) c.self.view_is in (
      line_more c.lines.invariant.0 _ _ (rw c.lines.invariant.2 at c.in-Some.ensures.some) c.lines.invariant.1 c.in_ok-append_to.ensures.ok
          (inr (refl, omega arith)) (omega arith),
      c.rest-left.ensures,
      c.next.ensures.same ∙ c.lines.invariant.2,
      c.lines.invariant.3,
      c.lines.invariant.4,
    )

pub returns-then-is_empty-clause-gathers : goal.returns-then-is_empty-clause-gathers
returns-then-is_empty-clause-gathers c = let same = c.rest-open.ensures ∙ ap (λ (left : LinesLeft). left.text) c.in_default.ensures.stays in
    rw c.max.ensures (ended (rw (sym same ∙ no_length c.rest-open.result.now (eqb-true _ 0 (sym c.if-is_empty.ensures))) at c.lines.invariant.0))

pub returns-clause-gathers : goal.returns-clause-gathers
returns-clause-gathers c = ends_open c.lines.invariant.0 _
    (c.rest-open.ensures ∙ ap (λ (left : LinesLeft). left.text) c.in_default.ensures.stays)
    (rw c.lines.invariant.2 at c.in_default.ensures.none) (sym c.if-is_empty.ensures) c.in_ok-append_to-2.ensures.ok (omega arith)
