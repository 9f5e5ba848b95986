use Rattle.std.proofs.{Common.{◌<◌, ◌+◌, length, sym, ◌∙◌, subst, arith}, lemmas.List.get_or_default}
use Rattle.scan_core.{
  specs.inner.Hops.{IsHop, no_hop},
  proofs.{
    Closings.{Parting, part_onward, part_landing, parting_ends},
    hops.hops_of.Goals.{then-is_within+in_ok-push, else-is_within+in_ok-push-2},
  },
}
use Rattle.scan_core.proofs.hops.hops_of.Goals as goal

pub loop-place-preserved : goal.loop-place-preserved
loop-place-preserved c =
    let nodes = c.args.nodes.now in
    let base = c.args.base.now in
    let all = c.in_ok-all.all.items in
    let place = c.loop-place.place in
    let inside : place < length all = omega arith in
    let eh = c.index-hop.ensures ∙ get_or_default all place _ no_hop inside in
    let is = subst (IsHop nodes) (sym eh) (c.in_ok-all.ensures.sound.each place inside) in
    elim c.if-is_within.branch [
      | then-is_within+in_ok-push w ↦
          rw (← w.onward-is) at (subst (λ v. Parting nodes base all c.loop-place.onward.items v.items (place + 1)) (sym w.landings-is)
          (part_landing c.loop-place.invariant (record { leads = is; ends = c.is_within.ensures w.if-is_within.true }) eh w.in_ok-push.ensures.items))
      | else-is_within+in_ok-push-2 w ↦
          rw (← w.onward-is) at (subst (λ v. Parting nodes base all w.push-else-is_within.new.self.items v.items (place + 1)) (sym w.landings-is)
          (part_onward c.loop-place.invariant is eh w.in_ok-push-2.ensures.items))
    ]

pub returns-clause-ok : goal.returns-clause-ok
returns-clause-ok c = let i = c.loop-place.invariant in record { onward = i.first; landings = i.last; met = parting_ends i (omega arith) c.in_ok-all.ensures.met }
